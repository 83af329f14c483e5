mod ToldLemmas
