use Rattle.std.proofs.Common.{◌≡◌, ◌++◌, List, ℕ, ap, arith, length, subst, sym}
use Rattle.tree_requests.specs.StoredTrees.{AreStored}
use Rattle.tree_requests.proofs.StoreLemmas.{stored_if_added}
use Rattle.tree_requests.proofs.store.TreeStore.put.Goals as goal

pub returns : goal.returns
returns c = λ kind stream stored kept.
    let before = c.make_room.new.self in
    let contents = c.args.contents.now in
    let items = c.extend_from_slice.new.self.items in
    let all : items ≡ before.bytes.items ++ contents = c.in-Ok.ensures.items in
    subst (λ (bytes : List ℕ). AreStored kind stream bytes c.insert.new.self) (sym all)
    (stored_if_added kind stream before.bytes.items before.spans contents c.insert.result c.insert.new.self c.args.id
    (record { start = c.len-start.result; end = c.len.result }) (omega (arith, before.bytes.ok.0, c.len-start.ensures))
    (omega (arith, c.extend_from_slice.new.self.ok.0, c.len.ensures, ap length all))
    (c.make_room.ensures.kept kind stream stored) kept c.insert.ensures.updates c.insert.ensures.err)
