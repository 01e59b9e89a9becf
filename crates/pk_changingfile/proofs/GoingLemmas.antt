-- What is read of a file that changes once.
use Rattle.std.proofs.Common.{◌≡◌, ◌≤◌, ℕ, Bool, true, List, length, get_or, take, drop, sym, ◌∙◌, ap, subst}
use Rattle.std.proofs.lemmas.List.{get_or-drop, get_or-take, length-take-le}
use Rattle.pk_manifest.specs.Evolves.{Evolves}
use Rattle.pk_snapshot.specs.Shared.{AreSeen, SeenAtOnce}
use Rattle.pk_manifest.proofs.Evolving.{evolves_here}
use Rattle.pk_changingfile.specs.Going.{MayGo, content_of, marked_evolves}

pub passes : (h h' : Bool) (b a b' a' : List ℕ) → b' ≡ b → a' ≡ a → (h ≡ true → h' ≡ true) → MayGo b a → Evolves (content_of h b a) (content_of h' b' a')
passes h h' b a b' a' same_b same_a stays goes =
    subst (λ (l : List ℕ). Evolves (content_of h b a) l) (λ i. content_of h' (sym same_b i) (sym same_a i)) (marked_evolves h h' b a goes stays)

pub seen_here : (old new out : List ℕ) (at n : ℕ) → Evolves old new → take n out ≡ take n (drop at old) → AreSeen old new at n out
seen_here old new out at n goes are i lt = record {
  moment = old;
  since = evolves_here old;
  until = goes;
  is = sym (get_or-take n out i 0 lt) ∙ ap (λ (l : List ℕ). get_or l i 0) are ∙ get_or-take n (drop at old) i 0 lt ∙ get_or-drop at old i 0;
}

pub once_here : (old new out : List ℕ) (at n : ℕ) → Evolves old new → n ≤ length out → take n out ≡ take n (drop at old) → SeenAtOnce old new at (take n out)
once_here old new out at n goes long are = record {
  moment = old;
  since = evolves_here old;
  until = goes;
  are = are ∙ ap (λ (k : ℕ). take k (drop at old)) (sym (length-take-le n out long));
}
