-- The line is text, and names the path that was read.
use Rattle.std.proofs.Common.{rules, ◌≡◌, List, ℕ, string_bytes, ap, ◌∙◌}
use Rattle.std.proofs.lemmas.Str.{is_utf8-from_IsUtf8}
use Rattle.gix_commitgraph.specs.Paths.{layer_path}
use Rattle.graph_find.proofs.chain.read_line.Goals as goal

pub returns-in-Some-clause-head : goal.returns-in-Some-clause-head
returns-in-Some-clause-head g c = record {
  text = is_utf8-from_IsUtf8 c.args.line.now c.in-Ok.ensures.cases.1;
  path =
      let named : string_bytes c.in_ok-path.path ≡ layer_path c.args.path.now c.in-Ok.name.now = search rules in
      named ∙ ap (λ (line : List ℕ). layer_path c.args.path.now line) c.in-Ok.ensures.cases.0;
  read = record {
    head = rw c.in-Some.is at c.in_ok-head.ensures.head;
    begins = λ tree is. rw (← c.as_str.ensures.value) (rw c.in-Some.is at (c.in_ok-head.ensures.begins tree is));
  };
}

pub returns-in-Some-clause-given : goal.returns-in-Some-clause-given
returns-in-Some-clause-given g c = record {
  path =
      let named : string_bytes c.in_ok-path.path ≡ layer_path c.args.path.now c.in-Ok.name.now = search rules in
      named ∙ ap (λ (line : List ℕ). layer_path c.args.path.now line) c.in-Ok.ensures.cases.0;
  head = rw (← c.as_str.ensures.value) (rw c.in-Some.is at c.in_ok-head.ensures.given);
}
