-- The commits match what the layer says of them, by computing.
use Rattle.std.proofs.Common.{◌≡◌, ◌∷◌, [], slice_index, refl, ap, codes, inl, arith}
use Rattle.std.specs.Fmt.{digits}
use Rattle.sha1.specs.Sha1.{first_words, schedule, rounds, compress, hash_after, digest_bytes, sha1}
use Rattle.hex.specs.Hex.{decode_pairs, encode_with}
use Rattle.gix_hash_core.specs.declared.kind.Kind.TheVariants.{Sha1}
use Rattle.commit_objects.specs.CommitContents.{Said, IsIdLine, tree_word, parent_word}
use Rattle.commit_objects.specs.Time.{parse_timestamp, behind_committer, newer_time, older_time}
use Rattle.graph_format.specs.Format.{pieces, words}
use Rattle.graph_format.specs.Layer.{Layer, record_at}
use Rattle.graph_objects.specs.Matching.{Matches}
use Rattle.graph_objects.specs.Stream.{IsStreamOf}
use Rattle.example_graph.specs.HexadecimalText.{hex}
use Rattle.example_graph.specs.FiveCommits.{layer, empty_tree, empty_tree_digits}
use Rattle.example_graph.specs.FiveCommits.{root_digits, early_child_digits, late_child_digits, merge_digits}
use Rattle.example_graph.specs.FiveContents.{tree_line, parent_line, rest_at, stream}
use Rattle.example_graph.specs.FiveContents.{root, early_child, late_child, octopus, merge}

abbrev pub lowest : Layer
lowest = layer (codes "commit-graph")

is_tree : IsIdLine Sha1 tree_word empty_tree tree_line
unfolding hex decode_pairs
is_tree = (empty_tree_digits, (inl refl, refl), refl, refl)

is_root : IsIdLine Sha1 parent_word (hex root_digits) (parent_line root_digits)
unfolding hex decode_pairs
is_root = (root_digits, (inl refl, refl), refl, refl)

is_early_child : IsIdLine Sha1 parent_word (hex early_child_digits) (parent_line early_child_digits)
unfolding hex decode_pairs
is_early_child = (early_child_digits, (inl refl, refl), refl, refl)

is_late_child : IsIdLine Sha1 parent_word (hex late_child_digits) (parent_line late_child_digits)
unfolding hex decode_pairs
is_late_child = (late_child_digits, (inl refl, refl), refl, refl)

is_merge : IsIdLine Sha1 parent_word (hex merge_digits) (parent_line merge_digits)
unfolding hex decode_pairs
is_merge = (merge_digits, (inl refl, refl), refl, refl)

said_root : Said
said_root =
    record {
      tree = empty_tree;
      parents = [];
      rest = rest_at (codes "4294967300");
    }

root_matches : Matches (lowest ∷ []) lowest 0 root
unfolding digits hex decode_pairs root said_root layer record_at pieces words first_words schedule rounds
    compress hash_after digest_bytes sha1 parse_timestamp behind_committer newer_time older_time
root_matches =
    record {
      contents = refl;
      said = said_root;
      says = record {
        tree_line = tree_line;
        parent_lines = [];
        whole = refl;
        tree = is_tree;
        parents = tt;
        some_rest = omega arith;
        no_parent = λ next h. let differ : 97 ≡ 112 = ap (λ xs. slice_index xs 0) h in omega (arith, differ);
      };
      agree = record { tree = refl; parents = refl; time = inl refl };
    }

said_early_child : Said
said_early_child =
    record {
      tree = empty_tree;
      parents = hex root_digits ∷ [];
      rest = rest_at (codes "1000");
    }

early_child_matches : Matches (lowest ∷ []) lowest 1 early_child
unfolding digits hex decode_pairs early_child said_early_child layer record_at pieces words first_words schedule rounds
    compress hash_after digest_bytes sha1 parse_timestamp behind_committer newer_time older_time
early_child_matches =
    record {
      contents = refl;
      said = said_early_child;
      says = record {
        tree_line = tree_line;
        parent_lines = parent_line root_digits ∷ [];
        whole = refl;
        tree = is_tree;
        parents = (is_root, tt);
        some_rest = omega arith;
        no_parent = λ next h. let differ : 97 ≡ 112 = ap (λ xs. slice_index xs 0) h in omega (arith, differ);
      };
      agree = record { tree = refl; parents = refl; time = inl refl };
    }

said_late_child : Said
said_late_child =
    record {
      tree = empty_tree;
      parents = hex root_digits ∷ [];
      rest = rest_at (codes "4294967400");
    }

late_child_matches : Matches (lowest ∷ []) lowest 2 late_child
unfolding digits hex decode_pairs late_child said_late_child layer record_at pieces words first_words schedule rounds
    compress hash_after digest_bytes sha1 parse_timestamp behind_committer newer_time older_time
late_child_matches =
    record {
      contents = refl;
      said = said_late_child;
      says = record {
        tree_line = tree_line;
        parent_lines = parent_line root_digits ∷ [];
        whole = refl;
        tree = is_tree;
        parents = (is_root, tt);
        some_rest = omega arith;
        no_parent = λ next h. let differ : 97 ≡ 112 = ap (λ xs. slice_index xs 0) h in omega (arith, differ);
      };
      agree = record { tree = refl; parents = refl; time = inl refl };
    }

said_octopus : Said
said_octopus =
    record {
      tree = empty_tree;
      parents = hex early_child_digits ∷ hex late_child_digits ∷ hex merge_digits ∷ [];
      rest = rest_at (codes "4294967500");
    }

octopus_matches : Matches (lowest ∷ []) lowest 3 octopus
unfolding digits hex decode_pairs octopus said_octopus layer record_at pieces words first_words schedule rounds
    compress hash_after digest_bytes sha1 parse_timestamp behind_committer newer_time older_time
octopus_matches =
    record {
      contents = refl;
      said = said_octopus;
      says = record {
        tree_line = tree_line;
        parent_lines = parent_line early_child_digits ∷ parent_line late_child_digits ∷ parent_line merge_digits ∷ [];
        whole = refl;
        tree = is_tree;
        parents = (is_early_child, (is_late_child, (is_merge, tt)));
        some_rest = omega arith;
        no_parent = λ next h. let differ : 97 ≡ 112 = ap (λ xs. slice_index xs 0) h in omega (arith, differ);
      };
      agree = record { tree = refl; parents = refl; time = inl refl };
    }

said_merge : Said
said_merge =
    record {
      tree = empty_tree;
      parents = hex early_child_digits ∷ hex late_child_digits ∷ [];
      rest = rest_at (codes "4294967350");
    }

merge_matches : Matches (lowest ∷ []) lowest 4 merge
unfolding digits hex decode_pairs merge said_merge layer record_at pieces words first_words schedule rounds
    compress hash_after digest_bytes sha1 parse_timestamp behind_committer newer_time older_time
merge_matches =
    record {
      contents = refl;
      said = said_merge;
      says = record {
        tree_line = tree_line;
        parent_lines = parent_line early_child_digits ∷ parent_line late_child_digits ∷ [];
        whole = refl;
        tree = is_tree;
        parents = (is_early_child, (is_late_child, tt));
        some_rest = omega arith;
        no_parent = λ next h. let differ : 97 ≡ 112 = ap (λ xs. slice_index xs 0) h in omega (arith, differ);
      };
      agree = record { tree = refl; parents = refl; time = inl refl };
    }

pub is_stream : IsStreamOf (lowest ∷ []) 0 5 stream
unfolding digits hex decode_pairs encode_with layer stream root early_child late_child octopus merge
is_stream =
    record {
      contents = root ∷ early_child ∷ late_child ∷ octopus ∷ merge ∷ [];
      counted = refl;
      agree = (
        (root_matches, omega arith),
        (
          (early_child_matches, omega arith),
          (
            (late_child_matches, omega arith),
            (
              (octopus_matches, omega arith),
              (
                (merge_matches, omega arith),
                tt,
              ),
            ),
          ),
        ),
      );
      whole = refl;
    }
