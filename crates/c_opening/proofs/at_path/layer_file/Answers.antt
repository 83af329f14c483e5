use Rattle.std.proofs.Common.{◌≡◌, ◌-◌, ◌∷◌, ◌∙◌, Some, ap, arith, false, List, rules, suc, sym, take_while, true, ℕ}
use Rattle.std.proofs.lemmas.Str.{is_utf8-from_IsUtf8}
use Rattle.std.specs.Str.{is_utf8}
use Rattle.gix_commitgraph.proofs.opening.Utf8Lemmas.{is_utf8-false}
use Rattle.gix_commitgraph.specs.Paths.{layer_path}
use Rattle.c_opening.proofs.KnownAnswers.{layer_of_lines, layer_of_lines-here, layer_of_lines-next, layer_of_lines-no_text}
use Rattle.c_opening.proofs.at_path.layer_file.Goals as goal

-- one layer less is below
pub loop-line-preserved : goal.loop-line-preserved
loop-line-preserved c =
    let folder = c.args.folder.now in
    let line = c.in-Some.line.now in
    let below = c.loop-line.below in
    let names : c.loop-line.line-iterator ≡ line ∷ c.next.new.self = search rules in
    let text : is_utf8 line ≡ true = is_utf8-from_IsUtf8 line c.in-Ok.ensures.cases.1 in
    let more : below ≡ suc (below - 1) = omega arith in
    record {
      can_next = tt;
      is_finite = tt;
      same = c.loop-line.invariant.same
          ∙ ap (λ (left : List (List ℕ)). layer_of_lines folder (take_while is_utf8 left) below) names
          ∙ layer_of_lines-next folder line c.next.new.self below (below - 1) text more;
    }

-- the next line is not UTF-8
pub returns-in_default : goal.returns-in_default
returns-in_default c =
    let folder = c.args.folder.now in
    let line = c.in-Some.line.now in
    let names : c.loop-line.line-iterator ≡ line ∷ c.next.new.self = search rules in
    let text : is_utf8 line ≡ false = is_utf8-false line c.in_default.ensures.cases.0 in
    sym
    (c.loop-line.invariant.same
    ∙ ap (λ (left : List (List ℕ)). layer_of_lines folder (take_while is_utf8 left) c.loop-line.below) names
    ∙ layer_of_lines-no_text folder line c.next.new.self c.loop-line.below text)

-- the next line names the layer
pub returns-then-below-eq0 : goal.returns-then-below-eq0
returns-then-below-eq0 c =
    let folder = c.args.folder.now in
    let line = c.in-Some.line.now in
    let names : c.loop-line.line-iterator ≡ line ∷ c.next.new.self = search rules in
    let text : is_utf8 line ≡ true = is_utf8-from_IsUtf8 line c.in-Ok.ensures.cases.1 in
    ap (λ (p : List ℕ). Some p) (c.in_ok-layer_path.ensures ∙ ap (layer_path folder) c.in-Ok.ensures.cases.0)
    ∙ sym
    (c.loop-line.invariant.same
    ∙ ap (λ (left : List (List ℕ)). layer_of_lines folder (take_while is_utf8 left) c.loop-line.below) names
    ∙ layer_of_lines-here folder line c.next.new.self c.loop-line.below text c.if-below-eq0.true)
