-- What lists that are joined give rises.
use Rattle.std.proofs.Common.{◌≡◌, ◌∙◌, ◌==◌, ◌∷◌, [], ℕ, List, Bool, true, false, length, sym, subst, arith}
use Rattle.std.proofs.lemmas.Bool.{ne_eqb}
use Rattle.std.specs.List.Sorted.{IsStrictlyIncreasing}
use Rattle.std.proofs.lemmas.List.Kept.{IsStrictlyIncreasing-filter}
use Rattle.pk_sets.proofs.CallerLemmas.{union_rises}
use Rattle.pk_sets.proofs.ExclusionLemmas.{difference_none}
use Rattle.pk_sets.specs.Sets.{difference, union}

pub either_rises : (xs ys ns : List ℕ) → IsStrictlyIncreasing ys → ns ≡ union xs ys → IsStrictlyIncreasing ns
either_rises xs ys ns h e = subst IsStrictlyIncreasing (sym e) (union_rises xs ys h)

pub without_rises : (xs ys ns : List ℕ) → IsStrictlyIncreasing xs → ns ≡ difference xs ys → IsStrictlyIncreasing ns
without_rises xs ys ns h e = subst IsStrictlyIncreasing (sym e) (IsStrictlyIncreasing-filter _ xs h)

-- where there is nothing to leave out
pub without_none : (xs ys : List ℕ) (b : Bool) → b ≡ (length ys == 0) → b ≡ true → xs ≡ difference xs ys
without_none xs [] b e f = sym (difference_none xs)
without_none xs (y ∷ ys) b e f = absurd (let k : true ≡ false = sym f ∙ e ∙ ne_eqb (length (y ∷ ys)) 0 (omega arith) in cc)
