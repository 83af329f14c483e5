use Rattle.std.proofs.Common.{◌≡◌, ℕ, ◌<◌, ◌≤◌, Bool, not, List, [], ◌∷◌, Some, None, Result, Ok, Err, map, sym, ap, ◌∙◌}
use Rattle.std.proofs.lemmas.Bool.{lt-ltb, le-ltb}
use Rattle.gix_chunk_core.specs.FirstFault.{◌when◌}
use Rattle.graph_format.specs.Parents.{position_of, items_of}
use Rattle.graph_format.specs.Points.{first_some}
use Rattle.graph_format.specs.declared.Position.{Position}
use Rattle.graph_format.specs.declared.parents.ParentError.{ParentError}
use Rattle.gix_commitgraph.specs.Verify.{item_refusal}
use Rattle.gix_commitgraph.specs.declared.verify.VerifyError.TheVariants.{Parent, ParentOutOfRange}
use Rattle.graph_layer.specs.Commit.{commit_pos, commit_parents}
use Rattle.graph_layer.specs.RemainingParents.{parents_left}
use Rattle.gix_commitgraph.proofs.check.GatherLemmas.{refusal-told, within-unrefused}
use Rattle.gix_commitgraph.proofs.graph.Graph.refused_parent.Goals as goal

-- a parent below the end is not refused
refusal-passed : {E : Type 0} (p stop : ℕ) (left rest : List (Result Position ParentError)) (item : Result Position ParentError)
    (parent : Position) → left ≡ item ∷ rest → item ≡ Ok parent → parent.0 < stop
    → first_some (map (item_refusal {E = E} p stop) left) ≡ first_some (map (item_refusal {E = E} p stop) rest)
refusal-passed {E} p stop left rest item parent taken is below =
    ap (λ (items : List (Result Position ParentError)). first_some (map (item_refusal {E = E} p stop) items)) taken
    ∙ ap (λ (first : Result Position ParentError). first_some
    (item_refusal {E = E} p stop first ∷ map (item_refusal {E = E} p stop) rest)) is
    ∙ ap (λ (b : Bool). first_some
    ((ParentOutOfRange (position_of p) parent when not b) ∷ map (item_refusal {E = E} p stop) rest))
    (lt-ltb parent.0 stop below)

-- one past the end is
refusal-found : {E : Type 0} (p stop : ℕ) (left rest : List (Result Position ParentError)) (item : Result Position ParentError)
    (parent : Position) → left ≡ item ∷ rest → item ≡ Ok parent → stop ≤ parent.0
    → first_some (map (item_refusal {E = E} p stop) left) ≡ Some (ParentOutOfRange (position_of p) parent)
refusal-found {E} p stop left rest item parent taken is past =
    ap (λ (items : List (Result Position ParentError)). first_some (map (item_refusal {E = E} p stop) items)) taken
    ∙ ap (λ (first : Result Position ParentError). first_some
    (item_refusal {E = E} p stop first ∷ map (item_refusal {E = E} p stop) rest)) is
    ∙ ap (λ (b : Bool). first_some
    ((ParentOutOfRange (position_of p) parent when not b) ∷ map (item_refusal {E = E} p stop) rest))
    (le-ltb parent.0 stop past)

-- one that cannot be decoded is
refusal-undecoded : {E : Type 0} (p stop : ℕ) (left rest : List (Result Position ParentError))
    (item : Result Position ParentError) (error : ParentError) → left ≡ item ∷ rest → item ≡ Err error
    → first_some (map (item_refusal {E = E} p stop) left) ≡ Some (Parent (position_of p) error)
refusal-undecoded {E} p stop left rest item error taken is =
    ap (λ (items : List (Result Position ParentError)). first_some (map (item_refusal {E = E} p stop) items)) taken
    ∙ ap (λ (first : Result Position ParentError). first_some
    (item_refusal {E = E} p stop first ∷ map (item_refusal {E = E} p stop) rest)) is

pub returns-in-Err : goal.returns-in-Err
returns-in-Err g c =
    sym (c.loop-parent.invariant
    ∙ refusal-undecoded c.args.pos.0 c.args.span.stop _ (parents_left c.next.new.self) c.in-Some.parent c.in-Err.error
    c.in-Some.ensures.steps.steps c.in-Err.is)
    ∙ refusal-told c.args.self.now c.args.span c.args.commit.now c.args.pos.0 c.requires.span c.requires.commit

pub returns-then-parent-span : goal.returns-then-parent-span
returns-then-parent-span g c =
    sym (c.loop-parent.invariant
    ∙ refusal-found c.args.pos.0 c.args.span.stop _ (parents_left c.next.new.self) c.in-Some.parent c.in-Ok.parent
    c.in-Some.ensures.steps.steps c.in-Ok.is c.if-parent-span.true)
    ∙ refusal-told c.args.self.now c.args.span c.args.commit.now c.args.pos.0 c.requires.span c.requires.commit

pub unreachable-requires : goal.unreachable-requires
unreachable-requires g c =
    let none : parents_left c.loop-parent.parent-iterator ≡ [] = c.in-None.ensures.steps.steps.0 in
    let passed : first_some (map (item_refusal {E = g.row.E.Denot} c.args.pos.0 c.args.span.stop)
    (items_of (commit_parents c.args.commit.now))) ≡ None =
    c.loop-parent.invariant
    ∙ ap (λ items. first_some (map (item_refusal {E = g.row.E.Denot} c.args.pos.0 c.args.span.stop) items)) none in
    c.requires.refused
    (within-unrefused c.args.self.now c.args.span (commit_pos c.args.commit.now) c.requires.span
    (sym (refusal-told c.args.self.now c.args.span c.args.commit.now c.args.pos.0 c.requires.span c.requires.commit) ∙ passed))

pub loop-parent-preserved : goal.loop-parent-preserved
loop-parent-preserved g c =
    c.loop-parent.invariant
    ∙ refusal-passed c.args.pos.0 c.args.span.stop _ (parents_left c.next.new.self) c.in-Some.parent c.in-Ok.parent
    c.in-Some.ensures.steps.steps c.in-Ok.is c.if-parent-span.false
