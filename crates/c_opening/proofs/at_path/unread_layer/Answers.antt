use Rattle.std.proofs.Common.{◌≡◌, ◌∷◌, ◌∙◌, Some, ap, false, List, rules, sym, take_while, true, ℕ}
use Rattle.std.proofs.lemmas.Str.{is_utf8-from_IsUtf8}
use Rattle.std.specs.Str.{is_utf8}
use Rattle.graph_folder.specs.Tree.{is_file}
use Rattle.gix_commitgraph.proofs.opening.Utf8Lemmas.{is_utf8-false}
use Rattle.gix_commitgraph.specs.Paths.{layer_path}
use Rattle.c_opening.specs.KnownPaths.{known_tree}
use Rattle.c_opening.proofs.KnownAnswers.{unread_of, unread_of-missing, unread_of-no_text, unread_of-read}
use Rattle.c_opening.proofs.at_path.unread_layer.Goals as goal

-- the next layer was read
pub loop-line-preserved : goal.loop-line-preserved
loop-line-preserved c =
    let tree = known_tree c.args.known.now in
    let folder = c.args.folder.now in
    let line = c.in-Some.line.now in
    let names : c.loop-line.line-iterator ≡ line ∷ c.next.new.self = search rules in
    let text : is_utf8 line ≡ true = is_utf8-from_IsUtf8 line c.in-Ok.ensures.cases.1 in
    let named : c.as_bytes.result.now ≡ layer_path folder line =
    c.as_bytes.ensures.value ∙ c.in_ok-path.ensures ∙ ap (layer_path folder) c.in-Ok.ensures.cases.0 in
    let read : is_file tree (layer_path folder line) ≡ true =
    ap (is_file tree) (sym named) ∙ sym c.is_read.ensures ∙ c.if-not-is_read.false in
    record {
      can_next = tt;
      is_finite = tt;
      same = c.loop-line.invariant.same
          ∙ ap (λ (left : List (List ℕ)). unread_of tree folder (take_while is_utf8 left)) names
          ∙ unread_of-read tree folder line c.next.new.self text read;
    }

-- the next line is not UTF-8
pub returns-in_default : goal.returns-in_default
returns-in_default c =
    let tree = known_tree c.args.known.now in
    let line = c.in-Some.line.now in
    let names : c.loop-line.line-iterator ≡ line ∷ c.next.new.self = search rules in
    let text : is_utf8 line ≡ false = is_utf8-false line c.in_default.ensures.cases.0 in
    sym
    (c.loop-line.invariant.same
    ∙ ap (λ (left : List (List ℕ)). unread_of tree c.args.folder.now (take_while is_utf8 left)) names
    ∙ unread_of-no_text tree c.args.folder.now line c.next.new.self text)

-- the next layer was not read
pub returns-then-not-is_read : goal.returns-then-not-is_read
returns-then-not-is_read c =
    let tree = known_tree c.args.known.now in
    let folder = c.args.folder.now in
    let line = c.in-Some.line.now in
    let names : c.loop-line.line-iterator ≡ line ∷ c.next.new.self = search rules in
    let text : is_utf8 line ≡ true = is_utf8-from_IsUtf8 line c.in-Ok.ensures.cases.1 in
    let path = c.in_ok-path.ensures ∙ ap (layer_path folder) c.in-Ok.ensures.cases.0 in
    let named : c.as_bytes.result.now ≡ layer_path folder line = c.as_bytes.ensures.value ∙ path in
    let missing : is_file tree (layer_path folder line) ≡ false =
    ap (is_file tree) (sym named) ∙ sym c.is_read.ensures ∙ c.if-not-is_read.true in
    ap (λ (p : List ℕ). Some p) path
    ∙ sym
    (c.loop-line.invariant.same
    ∙ ap (λ (left : List (List ℕ)). unread_of tree folder (take_while is_utf8 left)) names
    ∙ unread_of-missing tree folder line c.next.new.self text missing)
