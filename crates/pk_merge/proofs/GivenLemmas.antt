-- What is given to an output, run after run, and what the inputs spell meanwhile.
use Rattle.std.proofs.Common.{◌≡◌, ◌⊎◌, inl, inr, ℕ, ◌+◌, ◌-◌, ◌<◌, ◌≤◌, false, List, [], ◌∷◌, ◌++◌, length, get_or, refl, sym, ◌∙◌, ap, subst, append_assoc, arith, length-append, Result, Ok, Err}
use Rattle.std.specs.Prelude.{All, IsErrAnd}
use Rattle.std.proofs.lemmas.Bool.{cases_lt}
use Rattle.std.proofs.lemmas.List.Elements.{All-head, All-tail, All-weaker}
use Rattle.pk_disk.specs.declared.disk.Disk.{Ghosts}
use Rattle.pk_disk.specs.declared.units.Extent.{Extent}
use Rattle.pk_disk.specs.Disk.{in_range}
use Rattle.pk_disk.specs.Frames.{KeepsDisk}
use Rattle.pk_disk.specs.Units.{extent_bytes, start_of}
use Rattle.pk_disk.proofs.Images.{same_part}
use Rattle.pk_disk.proofs.Ranges.{outside_range}
use Rattle.pk_join.specs.declared.input.MergeInput.{MergeInput}
use Rattle.pk_join.specs.Inputs.{HasSameBytes, SpellsInputs}
use Rattle.pk_join.specs.declared.walk_input.Input.{Input}
use Rattle.pk_join.proofs.ComeLemmas.{spells_same}
use Rattle.pk_join.proofs.WholeLemmas.{SameIn}
use Rattle.pk_model.specs.Collection.{Doc}
use Rattle.pk_model.specs.Terms.{terms_of}
use Rattle.pk_posting.specs.Spelling.{spelling as list_spelling}
use Rattle.pk_replace.specs.declared.stream.StreamFault.{StreamFault}
use Rattle.pk_replace.specs.Cause.{IsUndamaged, NoneFailed}
use Rattle.pk_replace.proofs.WritingLemmas.{reads_only}
use Rattle.pk_segment.specs.Indexed.{list_with, lists_of, postings}
use Rattle.pk_segment.proofs.PlanLemmas.{lists_all}
use Rattle.pk_state.specs.Committed.{Stored}
use Rattle.pk_merge.specs.declared.output.Output.{Output}
use Rattle.pk_merge.specs.Apart.{IsApart}
use Rattle.pk_merge.specs.Output.{AreGiven, IsGiven, LiesApart, given, places_of}
use Rattle.pk_merge.proofs.FaultLemmas.{passed_on}
use Rattle.pk_merge.proofs.OutputLemmas.{stretch_then, writes_next}

-- ---- what the inputs spell stays

extent_stays : (b b' : List ℕ) (e : Extent) (start end : ℕ) → length b' ≡ length b
    → ((p : ℕ) → in_range start (end - start) p ≡ false → get_or b' p 0 ≡ get_or b p 0)
    → (start_of e + e.bytes ≤ start) ⊎ (end ≤ start_of e) → extent_bytes b' e ≡ extent_bytes b e
extent_stays b b' e start end long same apart =
    same_part b' b (start_of e) e.bytes long
    (λ p above below. same p (outside_range start (end - start) p (place p above below)))
  where
    place : (p : ℕ) → start_of e ≤ p → p < start_of e + e.bytes → (p < start) ⊎ (start + (end - start) ≤ p)
    place p above below = elim apart [
      | inl low ↦ inl (omega (arith, low, below))
      | inr high ↦ elim (cases_lt p start)
          [ inl less ↦ inl less | inr more ↦ inr (omega (arith, high, above, more)) ]
    ]

-- a write apart from the inputs leaves their bytes
pub same_bytes : (b b' : List ℕ) (is : List MergeInput) (start end : ℕ) → length b' ≡ length b
    → ((p : ℕ) → in_range start (end - start) p ≡ false → get_or b' p 0 ≡ get_or b p 0)
    → All (LiesApart start end) is
    → All (HasSameBytes b b') is
same_bytes b b' is start end long same apart = All-weaker (LiesApart start end) (HasSameBytes b b')
    (λ x one. extent_stays b b' x.extent start end long same one) is apart

-- nor does it change those of a walk
pub inputs_stay : (b b' : List ℕ) (is : List Input) (start end : ℕ) → length b' ≡ length b
    → ((p : ℕ) → in_range start (end - start) p ≡ false → get_or b' p 0 ≡ get_or b p 0)
    → All (IsApart start end) is → All (SameIn b b') is
inputs_stay b b' is start end long same apart = All-weaker (IsApart start end) (SameIn b b')
    (λ x one. extent_stays b b' x.extent start end long same one) is apart

pub spells_stays : (b b' : List ℕ) (is : List MergeInput) (ss : List Stored) (start end : ℕ)
    → length b' ≡ length b → ((p : ℕ) → in_range start (end - start) p ≡ false → get_or b' p 0 ≡ get_or b p 0)
    → All (LiesApart start end) is → SpellsInputs b is ss → SpellsInputs b' is ss
spells_stays b b' is ss start end long same apart spells =
    spells_same b b' is ss (same_bytes b b' is start end long same apart) spells

-- ---- lists so far

lists_split : (xs ys : List (List ℕ)) (docs : List Doc) → lists_of (xs ++ ys) docs ≡ lists_of xs docs
    ++ lists_of ys docs
lists_split [] ys docs = refl
lists_split (x ∷ xs) ys docs =
    ap (λ (l : List ℕ). list_spelling (list_with x docs) ++ l) (lists_split xs ys docs)
    ∙ sym (append_assoc (list_spelling (list_with x docs)) (lists_of xs docs) (lists_of ys docs))

-- the lists of the words so far and of the next one are not longer than all
pub lists_within : (docs : List Doc) (xs : List (List ℕ)) (w : List ℕ) (zs : List (List ℕ))
    → terms_of docs ≡ xs ++ (w ∷ zs) → length (lists_of xs docs) + length (list_spelling (list_with w docs))
    ≤ length (postings docs)
lists_within docs xs w zs terms =
    let all = sym (lists_all docs (terms_of docs) refl) ∙ ap (λ (ws : List (List ℕ)). lists_of ws docs) terms
    ∙ lists_split xs (w ∷ zs) docs in
    omega (
      arith,
      ap length all,
      length-append (lists_of xs docs) (lists_of (w ∷ zs) docs),
      length-append (list_spelling (list_with w docs)) (lists_of zs docs),
    )

pub all_mid : (P : List ℕ → Type 0) (xs : List (List ℕ)) (w : List ℕ) (zs : List (List ℕ))
    → All P (xs ++ (w ∷ zs)) → P w
all_mid P [] w zs all = All-head P w zs all
all_mid P (x ∷ xs) w zs all = all_mid P xs w zs (All-tail P x (xs ++ (w ∷ zs)) all)

-- ---- one run after another

abbrev pub well : Result ℕ StreamFault
well = Ok 0

module _ {D : Type 0} (d : Ghosts D) where
  -- a fault that is passed on is no damage where it was none
  pub err_given : {T : Type 0} (a b : D) (o o' : Output) (bytes : List ℕ) (r : Result T StreamFault)
      (x : StreamFault) → IsErrAnd r (λ y. y ≡ x) → IsUndamaged {T = T} (Err x)
      → AreGiven d a b o o' bytes r
  err_given a b o o' bytes r x is undamaged = passed_on {x = x} (AreGiven d a b o o' bytes) r is
      (record { count = tt; given_are = tt; undamaged = undamaged })

  -- the disk was read
  pub is_given_read : (a b c : D) (o o' : Output) → IsGiven d a b o o' well → KeepsDisk d b c
      → NoneFailed d b c → IsGiven d a c o o' well
  is_given_read a b c o o' one keeps none = record {
    stretch = one.stretch;
    writes =
        writes_next d o o' a b c one.stretch one.writes
        (reads_only d (places_of o') b c keeps.read keeps.size);
    buffer = one.buffer;
    cause = record { reads = none.reads ∙ one.cause.reads; writes = none.writes ∙ one.cause.writes };
  }

  pub are_given_read : (a b c : D) (o o' : Output) (xs : List ℕ) → d.content c ≡ d.content b
      → AreGiven d a b o o' xs well → AreGiven d a c o o' xs well
  are_given_read a b c o o' xs same one = record {
    count = one.count;
    given_are = ap (λ (l : List ℕ). given l o') same ∙ one.given_are;
    undamaged = tt;
  }

  -- and then bytes were given
  pub is_given_then : {T : Type 0} (a b c : D) (o p q : Output) (u : T) → IsGiven d a b o p well
      → IsGiven d b c p q (Ok u) → IsGiven d a c o q well
  is_given_then a b c o p q u one two = record {
    stretch = stretch_then o p q one.stretch two.stretch;
    writes = writes_next d o p a b c one.stretch one.writes two.writes;
    buffer = two.buffer ∙ one.buffer;
    cause = record {
      reads = two.cause.reads ∙ one.cause.reads;
      writes = two.cause.writes
          ∙ one.cause.writes;
    };
  }

  pub are_given_then : {T : Type 0} (a b c : D) (o p q : Output) (xs ys : List ℕ) (u : T)
      → AreGiven d a b o p xs well → AreGiven d b c p q ys (Ok u) → AreGiven d a c o q (xs ++ ys) well
  are_given_then a b c o p q xs ys u one two = record {
    count = omega (arith, two.count, one.count, length-append xs ys);
    given_are = two.given_are ∙ ap (λ (l : List ℕ). l ++ ys) one.given_are
        ∙ append_assoc (given (d.content a) o) xs ys;
    undamaged = tt;
  }

  -- and then bytes were given, or something failed
  pub are_given_next : {S T : Type 0} (a b c : D) (o p q : Output) (xs ys : List ℕ) (u : S)
      (r : Result T StreamFault) → AreGiven d a b o p xs (Ok u) → AreGiven d b c p q ys r
      → AreGiven d a c o q (xs ++ ys) r
  are_given_next a b c o p q xs ys u (Ok v) one two = record {
    count = omega (arith, two.count, one.count, length-append xs ys);
    given_are = two.given_are ∙ ap (λ (l : List ℕ). l ++ ys) one.given_are
        ∙ append_assoc (given (d.content a) o) xs ys;
    undamaged = tt;
  }
  are_given_next a b c o p q xs ys u (Err x) one two =
      record { count = tt; given_are = tt; undamaged = two.undamaged }

  -- at the end, where those are all
  pub are_given_all : {T : Type 0} {u : T} (a b : D) (o o' : Output) (xs ys : List ℕ) → xs ≡ ys
      → AreGiven d a b o o' xs well → AreGiven d a b o o' ys (Ok u)
  are_given_all {u = u} a b o o' xs ys same one = subst (λ (l : List ℕ). AreGiven d a b o o' l (Ok u)) same
      (record { count = one.count; given_are = one.given_are; undamaged = tt })
