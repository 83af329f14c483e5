-- The head makes the one layer.
use Rattle.std.proofs.Common.{◌≡◌, [], ◌∷◌, All, List, ℕ, ap, string_bytes, rules, subst, sym}
use Rattle.std.proofs.lemmas.List.Elements.{All-cons, All-nil}
use Rattle.graph_find.specs.PartsRead.{HeadWasRead}
use Rattle.graph_parts.specs.PiecesRead.{LayerPartsWereRead}
use Rattle.graph_parts.proofs.GivenLemmas.{head-read}
use Rattle.graph_parts.proofs.OpeningLemmas.{file-parts}
use Rattle.graph_parts.proofs.opening.open_file_parts.Goals as goal

pub new-layer-requires : goal.new-layer-requires
new-layer-requires g c = rw c.in-Some.is at c.in_ok-head.ensures.head

pub returns-clause-opened : goal.returns-clause-opened
returns-clause-opened g c =
    let known = g.T.Folder.tree c.args.folder.now in
    let part = c.new-layer.result in
    let is : c.push.new.self.items ≡ part ∷ [] = search rules in
    let named : string_bytes c.in_ok-path.path ≡ c.args.path.now = search rules in
    file-parts known c.args.path.now part _ is
    (rw c.new-layer.ensures.file named)
    c.new-layer.ensures.parts c.new-layer.ensures.none
    (rw c.new-layer.ensures.file (λ tree there. rw c.in-Some.is at (c.in_ok-head.ensures.begins tree there)))

pub returns-clause-given : goal.returns-clause-given
returns-clause-given g c =
    let gives = g.T.Folder.gives_part in
    let part = c.new-layer.result in
    let is : c.push.new.self.items ≡ part ∷ [] = search rules in
    let named : string_bytes c.in_ok-path.path ≡ c.args.path.now = search rules in
    let at : HeadWasRead gives (string_bytes c.in_ok-path.path) c.in-Some.head =
    subst (λ (p : List ℕ). HeadWasRead gives p c.in-Some.head) (sym named) (rw c.in-Some.is at c.in_ok-head.ensures.given) in
    let head : HeadWasRead gives (string_bytes part.file.path) part.file.head = rw c.new-layer.ensures.file at in
    let path : string_bytes part.file.path ≡ c.args.path.now = rw c.new-layer.ensures.file named in (
      rw is (ap (λ (p : List ℕ). p ∷ []) path),
      subst (All (LayerPartsWereRead gives)) (sym is)
          (All-cons (LayerPartsWereRead gives) part [] (head-read gives part head c.new-layer.ensures.head)
          (All-nil (LayerPartsWereRead gives))),
    )
