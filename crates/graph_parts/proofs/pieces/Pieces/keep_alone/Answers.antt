-- A piece is put after those that are kept alone.
use Rattle.std.proofs.Common.{◌≡◌, ◌++◌, arith, false, is_err, refl, rules}
use Rattle.graph_parts.proofs.BlockLemmas.{adds-alone, alone-at, alone-sized, taken}
use Rattle.graph_parts.proofs.pieces.Pieces.keep_alone.Goals as goal

pub returns-in-Ok-clause-adds : goal.returns-in-Ok-clause-adds
returns-in-Ok-clause-adds c =
    let old = c.args.self.now in
    let new = record old {
      left_alone = c.saturating_sub-self.result;
      alone = c.push.new.self;
      bytes = c.extend_from_slice.new.self;
    } in
    let passed : is_err c.extend_from_slice.result ≡ false = search rules in
    adds-alone old new c.args.index c.args.piece.now c.requires.long c.requires.sized refl refl c.in-Ok.ensures.added
    (taken c.extend_from_slice.result old.bytes.items (old.bytes.items ++ c.args.piece.now)
    c.extend_from_slice.new.self.items passed c.extend_from_slice.ensures.items)

pub returns-in-Ok-clause-kept : goal.returns-in-Ok-clause-kept
returns-in-Ok-clause-kept c =
    let old = c.args.self.now in
    let new = record old {
      left_alone = c.saturating_sub-self.result;
      alone = c.push.new.self;
      bytes = c.extend_from_slice.new.self;
    } in
    let passed : is_err c.extend_from_slice.result ≡ false = search rules in
    alone-at old new c.args.index c.args.piece.now c.requires.long c.requires.sized refl refl c.in-Ok.ensures.added
    (taken c.extend_from_slice.result old.bytes.items (old.bytes.items ++ c.args.piece.now)
    c.extend_from_slice.new.self.items passed c.extend_from_slice.ensures.items)
    c.len-start.result (omega (arith, c.len-start.ensures, old.bytes.ok))

pub returns-in-Ok-clause-sized : goal.returns-in-Ok-clause-sized
returns-in-Ok-clause-sized c =
    let old = c.args.self.now in
    let new = record old {
      left_alone = c.saturating_sub-self.result;
      alone = c.push.new.self;
      bytes = c.extend_from_slice.new.self;
    } in
    let passed : is_err c.extend_from_slice.result ≡ false = search rules in
    alone-sized old new c.args.index c.args.piece.now c.requires.long c.requires.sized refl refl c.in-Ok.ensures.added
    (taken c.extend_from_slice.result old.bytes.items (old.bytes.items ++ c.args.piece.now)
    c.extend_from_slice.new.self.items passed c.extend_from_slice.ensures.items)
