-- What a reader gave, read into a part of a slice.
use Rattle.std.proofs.Common.{◌≡◌, ℕ, ◌+◌, ◌≤◌, List, ◌++◌, Option, length, take, sym, ap, ◌∙◌, subst, length-take-le}
use Rattle.std.proofs.KnownBytes.{Consumes-trans}
use Rattle.std.proofs.Math.Seq.{take-append-add, take-append-le}
use Rattle.std.specs.Io.KnownBytes.{Consumes}
use borrow.Rule.Slice.PartMut.{put_mid, post_of}

-- the first bytes of a slice after a read into what follows them
taken-more : (from room count : ℕ) (old read : List ℕ) → from ≤ length old → count ≤ length read
    → take from old ++ take count read ≡ take (from + count) (put_mid from room old read)
taken-more from room count old read within fits =
    let after = read ++ post_of from room old in
    let size : length (take from old) ≡ from = length-take-le from old within in
    ap (λ l. take from old ++ l) (sym (take-append-le count read (post_of from room old) fits))
    ∙ sym (take-append-add (take from old) after count)
    ∙ ap (λ n. take (n + count) (take from old ++ after)) size

pub filled-more : (a b c : Option (List ℕ)) (from room count : ℕ) (old read : List ℕ) → from ≤ length old → count ≤ length read
    → Consumes a b (take from old) → Consumes b c (take count read)
    → Consumes a c (take (from + count) (put_mid from room old read))
filled-more a b c from room count old read within fits before now =
    subst (Consumes a c) (taken-more from room count old read within fits) (Consumes-trans a b c _ _ before now)
