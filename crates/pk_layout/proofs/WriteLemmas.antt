-- What is to be written: the new lists one by one, and the pieces.
use Rattle.std.proofs.Common.{◌≡◌, ℕ, zero, suc, eqb, ◌+◌, ◌<◌, ◌≤◌, ◌++◌, Bool, true, false, List, [], ◌∷◌, length, length-append, map, take, get_or, refl, sym, ◌∙◌, ap, subst, arith, append-nil, Vec, Global}
use Rattle.std.specs.Prelude.{All, if◌then◌else◌}
use Rattle.std.proofs.lemmas.Bool.{eq-eqb, not-true}
use Rattle.std.proofs.lemmas.List.{length-map, length-take-le, map-append, take_all, take_more}
use Rattle.std.proofs.lemmas.List.Elements.{All-append, All-cons, All-get_or, All-nil}
use Rattle.pk_model.specs.Limits.{max_segment_bytes}
use Rattle.pk_disk.specs.Units.{start_of}
use Rattle.pk_disk.specs.declared.units.Extent.{Extent}
use Rattle.pk_posting.specs.Posting.{IsPosting}
use Rattle.pk_posting.specs.Spelling.{spelling}
use Rattle.pk_replace.specs.Claims.{claim_of}
use Rattle.pk_replace.specs.declared.pieces.Piece.{Piece}
use Rattle.pk_open.specs.declared.opened.OpenSegment.{OpenSegment}
use Rattle.pk_open.specs.Opened.{pends}
use Rattle.pk_layout.specs.Plan.{CanBeWritten, laid_in, new_lists}
use Rattle.pk_layout.specs.Plan.{IsGrown}
use Rattle.pk_layout.proofs.SizeLemmas.{least_list, most_list}

abbrev CanWrite : List ℕ → Type 0
CanWrite w = (5 ≤ length w) × (length w ≤ max_segment_bytes)

-- a list in which a deletion is pending has a number
more_than : (n m : ℕ) → eqb m n ≡ false → n ≤ m → 0 < m
more_than n zero other le = absurd (let same : 0 ≡ n = omega (arith, le) in let odd : true ≡ false = sym (eq-eqb 0 n same) ∙ other in cc)
more_than n (suc m) other le = omega arith

pending_some : (o : OpenSegment) → pends o ≡ true → IsGrown o → 0 < length o.deleted
pending_some o is grown = more_than (length o.dead) (length o.deleted) (not-true (eqb (length o.deleted) (length o.dead)) is) grown

-- the lists of some segments and more
lists_append : (os ps : List OpenSegment) → new_lists (os ++ ps) ≡ new_lists os ++ new_lists ps
lists_append [] ps = refl
lists_append (o ∷ os) ps = by (pends o) (lists_append os ps)
  where
    by : (b : Bool) → new_lists (os ++ ps) ≡ new_lists os ++ new_lists ps → (if b then spelling o.deleted ∷ new_lists (os ++ ps) else new_lists (os ++ ps)) ≡ (if b then spelling o.deleted ∷ new_lists os else new_lists os) ++ new_lists ps
    by true more = ap (λ (ws : List (List ℕ)). spelling o.deleted ∷ ws) more
    by false more = more

-- one segment more, where a deletion is pending in it, and where none is
module _ (os : List OpenSegment) (i : ℕ) (o : OpenSegment) (lt : i < length os) (at : o ≡ get_or os i o) where
  so_far : new_lists (take (i + 1) os) ≡ new_lists (take i os) ++ new_lists (o ∷ [])
  so_far = ap new_lists (take_more os i o lt ∙ ap (λ (x : OpenSegment). take i os ++ x ∷ []) (sym at)) ∙ lists_append (take i os) (o ∷ [])

  pub list_more : pends o ≡ true → new_lists (take (i + 1) os) ≡ new_lists (take i os) ++ spelling o.deleted ∷ []
  list_more is = so_far ∙ ap (λ (b : Bool). new_lists (take i os) ++ (if b then spelling o.deleted ∷ [] else [])) is

  pub no_list_more : pends o ≡ false → new_lists (take (i + 1) os) ≡ new_lists (take i os)
  no_list_more is = so_far ∙ ap (λ (b : Bool). new_lists (take i os) ++ (if b then spelling o.deleted ∷ [] else [])) is ∙ append-nil (new_lists (take i os))

  pub sizes_more : pends o ≡ true → All IsGrown os → IsPosting o.deleted → CanBeWritten (new_lists (take i os)) → CanBeWritten (new_lists (take (i + 1) os))
  sizes_more is grown posting before =
      let some = pending_some o is (subst IsGrown (sym at) (All-get_or IsGrown os i o lt grown)) in
      subst CanBeWritten (sym (list_more is))
      (All-append CanWrite (new_lists (take i os)) (spelling o.deleted ∷ []) before
      (All-cons CanWrite (spelling o.deleted) [] (least_list o.deleted posting some, most_list o.deleted posting) (All-nil CanWrite)))

-- ---- pieces

pub laid_last : (es : List Extent) (ws : List (List ℕ)) (e : Extent) (w : List ℕ) → length es ≡ length ws → laid_in (es ++ e ∷ []) (ws ++ w ∷ []) ≡ laid_in es ws ++ record { at = start_of e; bytes = w } ∷ []
laid_last [] [] e w same = refl
laid_last [] (x ∷ ws) e w same = absurd (omega (arith, same))
laid_last (x ∷ es) [] e w same = absurd (omega (arith, same))
laid_last (x ∷ es) (y ∷ ws) e w same = ap (λ cs. record { at = start_of x; bytes = y } ∷ cs) (laid_last es ws e w (omega (arith, same)))

-- one piece more
pub one_piece : (old new : List Piece) (extents : List Extent) (done : List (Vec ℕ Global)) (e : Extent) (w : Vec ℕ Global) (piece : Piece) → length done < length extents → e ≡ get_or extents (length done) e
    → map claim_of old ≡ laid_in (take (length done) extents) (map (λ v. v.items) done) → new ≡ old ++ piece ∷ [] → claim_of piece ≡ record { at = start_of e; bytes = w.items }
    → map claim_of new ≡ laid_in (take (length (done ++ w ∷ [])) extents) (map (λ v. v.items) (done ++ w ∷ []))
one_piece old new extents done e w piece lt at so_far more is =
    let items : Vec ℕ Global → List ℕ = λ v. v.items in
    let n = length done in
    let long : length (take n extents) ≡ length (map items done) = omega (arith, length-take-le n extents (omega (arith, lt)), length-map done items) in
    let next : take (length (done ++ w ∷ [])) extents ≡ take n extents ++ e ∷ []
    = ap (λ (k : ℕ). take k extents) (length-append done (w ∷ [])) ∙ take_more extents n e lt ∙ ap (λ (x : Extent). take n extents ++ x ∷ []) (sym at) in
    ap (map claim_of) more ∙ map-append claim_of old (piece ∷ []) ∙ ap (λ cs. cs ++ claim_of piece ∷ []) so_far ∙ ap (λ c. laid_in (take n extents) (map items done) ++ c ∷ []) is
    ∙ sym (laid_last (take n extents) (map items done) e w.items long)
    ∙ (λ i. laid_in (sym next i) (sym (map-append items done (w ∷ [])) i))

-- and then all
pub all_pieces : (pieces : List Piece) (extents : List Extent) (done writes : List (Vec ℕ Global)) → length writes ≡ length extents → done ≡ writes → map claim_of pieces ≡ laid_in (take (length done) extents) (map (λ v. v.items) done)
    → map claim_of pieces ≡ laid_in extents (map (λ v. v.items) writes)
all_pieces pieces extents done writes same all so_far =
    let whole : take (length done) extents ≡ extents = take_all (length done) extents (omega (arith, same, ap length all)) in
    so_far ∙ (λ i. laid_in (whole i) (map (λ v. v.items) (all i)))
