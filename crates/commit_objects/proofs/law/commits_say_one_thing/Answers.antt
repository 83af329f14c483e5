use Rattle.commit_objects.proofs.ParentLemmas.{says_one}
use Rattle.commit_objects.proofs.law.commits_say_one_thing.Goals as goal

pub returns : goal.returns
returns c = says_one
