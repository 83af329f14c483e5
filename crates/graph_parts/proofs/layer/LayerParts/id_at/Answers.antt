-- The id is that of the position.
use Rattle.std.proofs.Common.{List, ℕ, Some, sym, ap, ◌∙◌}
use Rattle.graph_parts.proofs.layer.LayerParts.id_at.Goals as goal

pub kept_id-requires-clause-kept : goal.kept_id-requires-clause-kept
kept_id-requires-clause-kept g c = rw c.in-Some.is at c.in_ok-kept.ensures.kept

pub returns-in-Some-try_from_bytes-clause-id : goal.returns-in-Some-try_from_bytes-clause-id
returns-in-Some-try_from_bytes-clause-id g c = λ layer shows.
    c.kept_id.ensures.id (g.T.Folder.tree c.args.folder.now) layer shows
    ∙ ap (λ (id : List ℕ). Some id) (sym (c.to_owned.ensures ∙ c.in-Some-try_from_bytes.ensures.bytes))
