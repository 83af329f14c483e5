use Rattle.std.proofs.Common.{◌%◌, ◌*◌, length, refl}
use Rattle.path_filters.proofs.BitLemmas.{set_hit, set_kept, set_others}
use Rattle.path_filters.proofs.bits.set_bit.Goals as goal

pub returns-clause-set : goal.returns-clause-set
returns-clause-set c =
    set_hit c.args.filter.now c.args.probe (c.args.probe % (8 * length c.args.filter.now)) c.requires.some refl

pub returns-clause-kept : goal.returns-clause-kept
returns-clause-kept c =
    set_kept c.args.filter.now c.args.probe (c.args.probe % (8 * length c.args.filter.now)) c.requires.some refl

pub returns-clause-no_others : goal.returns-clause-no_others
returns-clause-no_others c =
    set_others c.args.filter.now c.args.probe (c.args.probe % (8 * length c.args.filter.now)) c.requires.some refl
