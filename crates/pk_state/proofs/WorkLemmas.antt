-- When a commit, a merge and a tidy have something to write.
use Rattle.std.proofs.Common.{◌≡◌, ◌↔◌, inl, inr, ◌<◌, ◌≤◌, ◌&&◌, ◌||◌, eqb, leb, ltb, Bool, true, false, not, cond, List, [], ◌∷◌, ◌++◌, length, refl, sym, ◌∙◌, ap, subst, arith}
use Rattle.std.specs.Prelude.{filter, if◌then◌else◌}
use Rattle.std.specs.List.{list_any}
use Rattle.std.proofs.lemmas.Bool.{and_parts, eq-eqb, eqb-true, le-leb, leb-true, lt-leb, lt-ltb, ltb-true, not-false, not-true, or_parts}
use Rattle.std.proofs.lemmas.List.Concat.{flat_map-cons}
use Rattle.std.proofs.lemmas.List.Elements.{recursion_from_All}
use Rattle.pk_model.specs.Collection.{Doc, Collection}
use Rattle.pk_model.specs.Steps.{commit, merge, tidy}
use Rattle.pk_model.specs.Limits.{max_segment_bytes}
use Rattle.pk_state.specs.Committed.{Stored, has_documents, is_pending, live_in, live_of, uncommitted}
use Rattle.pk_state.specs.Legal.{State, has_work, marked}
use Rattle.pk_state.specs.Merged.{HasNothingToMerge}
use Rattle.pk_state.specs.States.{IsState}
use Rattle.pk_segment.specs.Spelling.{segment_length}
use Rattle.pk_state.specs.Writing.{is_too_large, stored_after, written_kind}
use Rattle.pk_state.proofs.KindLemmas.{header_alone}
use Rattle.pk_state.proofs.CommitLemmas.{is_gone, lives, no_documents, without_new}
use Rattle.pk_state.proofs.MemberLemmas.{In, from_all, in_back, in_front, says_live}
use Rattle.pk_state.proofs.FollowsLemmas.{listed_anew}
use Rattle.pk_state.proofs.MergeLemmas.{collection, merged_says}

-- ---- a commit without work

quiet_stored : (now : Collection) (stored : List Stored) → list_any (is_pending now) stored ≡ false → stored_after now stored ≡ stored
quiet_stored now [] h = refl
quiet_stored now (t ∷ stored) h =
    let parts = or_parts (is_pending now t) (list_any (is_pending now) stored) h in
    ap (λ b. if b then listed_anew now t ∷ stored_after now stored else t ∷ stored_after now stored) parts.0
    ∙ ap (λ ts. t ∷ ts) (quiet_stored now stored parts.1)

pub idle_marks : (s : State) → IsState s → has_work s commit ≡ false → marked s ≡ s.now
idle_marks s is h =
    let none = not (has_documents (uncommitted s.committed s.now)) in
    let quiet = not (list_any (is_pending s.now) s.committed.stored) in
    let first = and_parts none (quiet && eqb s.now.next s.committed.body.next_number) (not-false _ h) in
    let second = and_parts quiet (eqb s.now.next s.committed.body.next_number) first.1 in
    let docs = no_documents (uncommitted s.committed s.now) (not-true _ first.0) in
    let same = quiet_stored s.now s.committed.stored (not-true _ second.0) in
    ap (collection s.committed.body.next_number) (ap live_in (sym same) ∙ without_new s is docs)
    ∙ ap (λ n. collection n s.now.documents) (sym (eqb-true s.now.next s.committed.body.next_number second.1))

-- ---- a commit with nothing new

none_kept : (p : Doc → Bool) (xs : List Doc) → ((d : Doc) → In d xs → p d ≡ false) → filter p xs ≡ []
unfolding In
none_kept p [] h = refl
none_kept p (x ∷ xs) h = ap (λ b. cond b (x ∷ filter p xs) (filter p xs)) (h x (inl refl)) ∙ none_kept p xs (λ d m. h d (inr m))

none_gone : (now : Collection) (xs : List Doc) → ((d : Doc) → In d xs → lives now d ≡ true) → list_any (is_gone now) xs ≡ false
unfolding In
none_gone now [] h = refl
none_gone now (x ∷ xs) h = ap (λ b. not b || list_any (is_gone now) xs) (h x (inl refl)) ∙ none_gone now xs (λ d m. h d (inr m))

none_pending : (now : Collection) (stored : List Stored) → ((d : Doc) → In d (live_in stored) → lives now d ≡ true) → list_any (is_pending now) stored ≡ false
none_pending now [] h = refl
none_pending now (t ∷ stored) h =
    let all : (d : Doc) → In d (live_of t ++ live_in stored) → lives now d ≡ true = subst (λ (ds : List Doc). (d : Doc) → In d ds → lives now d ≡ true) (flat_map-cons live_of t stored) h in
    ap (λ b. b || list_any (is_pending now) stored) (none_gone now (live_of t) (λ d m. all d (in_front d (live_of t) (live_in stored) m)))
    ∙ none_pending now stored (λ d m. all d (in_back d (live_of t) (live_in stored) m))

pub marked_idle : (s : State) → IsState s → marked s ≡ s.now → has_work s commit ≡ false
marked_idle s is same =
    let next : s.committed.body.next_number ≡ s.now.next = ap (λ (c : Collection). c.next) same in
    let docs : live_in s.committed.stored ≡ s.now.documents = ap (λ (c : Collection). c.documents) same in
    let below = from_all (λ (d : Doc). (1 ≤ d.number) × (d.number < s.now.next)) s.now.documents (recursion_from_All _ s.now.documents is.now_is.each) in
    let none : uncommitted s.committed s.now ≡ [] = none_kept (λ d. leb s.committed.body.next_number d.number) s.now.documents
    (λ d m. lt-leb s.committed.body.next_number d.number (let low : d.number < s.now.next = (below d m).1 in omega (arith, next, low))) in
    let quiet = none_pending s.now s.committed.stored (λ d m. says_live d s.now.documents (subst (λ (ds : List Doc). In d ds) docs m)) in
    ap (λ ds. not (not (has_documents ds) && (not (list_any (is_pending s.now) s.committed.stored) && eqb s.now.next s.committed.body.next_number))) none
    ∙ ap (λ b. not (not b && eqb s.now.next s.committed.body.next_number)) quiet
    ∙ ap not (eq-eqb s.now.next s.committed.body.next_number (sym next))

pub commit_idle : (s : State) → IsState s → (has_work s commit ≡ false) ↔ (marked s ≡ s.now)
commit_idle s is = (idle_marks s is, marked_idle s is)

-- ---- a merge and a tidy

pub merge_idle : (s : State) → (has_work s merge ≡ false) ↔ HasNothingToMerge s.committed.body.entries
merge_idle s =
    let says = merged_says s.committed.body.entries in
    (λ h. says.0 (not-false _ h), λ h. ap not (says.1 h))

pub tidy_works : (s : State) → (has_work s tidy ≡ true) ↔ (8 ≤ length s.committed.body.entries)
tidy_works s = (leb-true 8 (length s.committed.body.entries), le-leb 8 (length s.committed.body.entries))

-- ---- a segment that is too large

one_or : (b : Bool) → (b || false) ≡ b
one_or true = refl
one_or false = refl

pub too_large : (docs : List Doc) → (is_too_large docs ≡ true) ↔ (max_segment_bytes < segment_length docs written_kind)
too_large [] = (λ h. absurd (let no : false ≡ true = h in cc), λ h. absurd (omega (arith, h, header_alone written_kind)))
too_large (d ∷ docs) =
    let long = segment_length (d ∷ docs) written_kind in
    (λ h. ltb-true max_segment_bytes long (sym (one_or (ltb max_segment_bytes long)) ∙ h), λ h. one_or (ltb max_segment_bytes long) ∙ lt-ltb max_segment_bytes long h)
