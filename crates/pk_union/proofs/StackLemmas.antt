-- Stacks of lists, one list higher or lower.
use Rattle.std.proofs.Common.{◌≡◌, ◌∙◌, ◌*◌, ◌<◌, ℕ, suc, List, [], ◌∷◌, ◌++◌, length, get_or, refl, ap, subst}
use Rattle.std.specs.Global.{Vec}
use Rattle.pk_union.specs.Stack.{IsStack, lengths_of}

pub lengths_on : (lists : List (Vec ℕ)) (top : Vec ℕ) → lengths_of (lists ++ top ∷ []) ≡ lengths_of lists ++ length top.items ∷ []
lengths_on [] top = refl
lengths_on (v ∷ lists) top = ap (λ ns. length v.items ∷ ns) (lengths_on lists top)

-- what is below the top is a stack
pub stack_front : (ns : List ℕ) (top : ℕ) → IsStack (ns ++ top ∷ []) → IsStack ns
stack_front [] top is = tt
stack_front (n ∷ []) top is = tt
stack_front (n ∷ m ∷ ms) top is = (is.0, stack_front (m ∷ ms) top is.1)

-- one may come onto what is more than twice as long
pub stack_on : (ns : List ℕ) (top : ℕ) → IsStack ns → ((k : ℕ) → length ns ≡ suc k → 2 * top < get_or ns k 0) → IsStack (ns ++ top ∷ [])
stack_on [] top is longer = tt
stack_on (n ∷ []) top is longer = (longer 0 refl, tt)
stack_on (n ∷ m ∷ ms) top is longer = (is.0, stack_on (m ∷ ms) top is.1 (λ k e. longer (suc k) (ap suc e)))

-- the one at the top is taken off
pub stack_below : (lists left : List (Vec ℕ)) (top : Vec ℕ) → lists ≡ left ++ top ∷ [] → IsStack (lengths_of lists) → IsStack (lengths_of left)
stack_below lists left top e is = stack_front (lengths_of left) (length top.items) (subst IsStack (ap lengths_of e ∙ lengths_on left top) is)
