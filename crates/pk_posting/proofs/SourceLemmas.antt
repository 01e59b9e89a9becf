-- What calls leave of a source, one after the other.
use Rattle.std.proofs.Common.{◌≡◌, ◌+◌, ◌∙◌, ℕ, Result, Ok, arith, length, refl, subst}
use Rattle.pk_posting.specs.declared.source.ByteSource.{Ghosts}
use Rattle.pk_posting.specs.declared.source.SourceFault.{SourceFault}
use Rattle.pk_posting.specs.Frames.{IsRead, ReadsSource}

-- what calls that were all answered leave of it
pub record IsAnswered {S : Type 0} (s : Ghosts S) (old new : S) : Type 0 where
  pub same : s.honest → s.content new ≡ s.content old
  pub size : length (s.content new) ≡ length (s.content old)
  pub kept : s.keeps old new
  pub failures : s.failures new ≡ s.failures old

pub answered_none : {S : Type 0} {s : Ghosts S} {a : S} → s.keeps a a → IsAnswered s a a
answered_none kept = record { same = λ h. refl; size = refl; kept = kept; failures = refl }

-- a call that was answered
pub answered : {S T E : Type 0} {s : Ghosts S} {counts : ℕ → ℕ → Result T E → Type 0} {result : Result T E} {a b : S}
    → ReadsSource s counts result a b → s.failures b ≡ s.failures a → IsAnswered s a b
answered left failures = record { same = left.same; size = left.size; kept = left.kept; failures = failures }

-- any call after those
pub answered_then : {S T E : Type 0} {s : Ghosts S} {counts : ℕ → ℕ → Result T E → Type 0} {result : Result T E} {a b c : S} → ((x y z : S) → s.keeps x y → s.keeps y z → s.keeps x z)
    → IsAnswered s a b → ReadsSource s counts result b c → ReadsSource s counts result a c
answered_then {s = s} {counts = counts} {result = result} {c = c} keeps_then before one = record {
  same = λ h. one.same h ∙ before.same h;
  size = one.size ∙ before.size;
  kept = keeps_then _ _ _ before.kept one.kept;
  faults = subst (λ (n : ℕ). counts n (s.failures c) result) before.failures one.faults;
}

-- one answer more
pub answered_more : {S T E : Type 0} {s : Ghosts S} {counts : ℕ → ℕ → Result T E → Type 0} {result : Result T E} {a b c : S} → ((x y z : S) → s.keeps x y → s.keeps y z → s.keeps x z)
    → IsAnswered s a b → ReadsSource s counts result b c → s.failures c ≡ s.failures b → IsAnswered s a c
answered_more keeps_then before one failures = answered (answered_then keeps_then before one) (failures ∙ before.failures)

-- a call that reads no more, with another answer
pub source_as : {S T U E F : Type 0} {s : Ghosts S} {counts : ℕ → ℕ → Result T E → Type 0} {counts' : ℕ → ℕ → Result U F → Type 0} {first : Result T E} {result : Result U F} {a b : S}
    → ReadsSource s counts first a b → counts' (s.failures a) (s.failures b) result → ReadsSource s counts' result a b
source_as left faults = record { same = left.same; size = left.size; kept = left.kept; faults = faults }

-- calls that ask at most so often
pub read_then : {S T U : Type 0} {s : Ghosts S} {m n : ℕ} {v : U} {r : Result T SourceFault} {a b c : S} → ((x y z : S) → s.keeps x y → s.keeps y z → s.keeps x z)
    → IsRead s m (Ok v) a b → IsRead s n r b c → IsRead s (m + n) r a c
read_then keeps_then one two = record {
  read = answered_then keeps_then (answered one.read one.faults.ok) two.read;
  asks = omega (arith, one.asks, two.asks);
}
