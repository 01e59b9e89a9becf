-- What a look-up finds among the entries of a cache, before and after a block was put first.
use Rattle.std.proofs.Common.{◌≡◌, ◌⊎◌, inl, inr, ℕ, zero, suc, ◌<◌, ◌≤◌, ◌+◌, ◌-◌, ◌==◌, ◌&&◌, Bool, true, false, List, [], ◌∷◌, length, length-take, take, Some, None, Result, Ok, Err, OnOk, OnErr, is_err, if◌then◌else◌, refl, sym, ap, ◌∙◌, arith}
use Rattle.std.proofs.lemmas.Bool.{eqb-true}
use Rattle.std.proofs.lemmas.List.{take_all}
use Rattle.std.specs.Map.{lookup, lookup_entry, remove_entry}
use Rattle.lru.specs.LruCache.{LruCache, lru_cache, promoted, put_entries}
use Rattle.pk_cache.specs.declared.key.BlockKey.{BlockKey}
use Rattle.pk_cache.specs.Keys.{IsSound, Rises, is_key}

abbrev pub Entries : Type 0
Entries = List (BlockKey × List ℕ)

both_true : (x y : Bool) → (x && y) ≡ true → (x ≡ true) × (y ≡ true)
both_true true y e = (refl, e)
both_true false y e = cc

-- equal keys are the same
pub same_key : (a b : BlockKey) → is_key a b ≡ true → a ≡ b
same_key a b e =
    let p = both_true (a.segment == b.segment) ((a.at == b.at) && (a.block == b.block)) e in
    let q = both_true (a.at == b.at) (a.block == b.block) p.1 in
    let segment = eqb-true a.segment b.segment p.0 in
    let at = eqb-true a.at b.at q.0 in
    let block = eqb-true a.block b.block q.1 in
    λ i. record { segment = segment i; at = at i; block = block i }

-- ---- a key for which nothing is kept

-- nothing is taken out
pub without_none : (key : BlockKey) (es : Entries) → lookup (is_key key) es ≡ None → remove_entry (is_key key) es ≡ es
without_none key [] e = refl
without_none key (f ∷ es) e = (elim (is_key key f.0) as (λ t. is_key key f.0 ≡ t → remove_entry (is_key key) (f ∷ es) ≡ f ∷ es) [
  | true ↦ λ t. (let h = rw t at e in cc)
  | false ↦ λ t. (let h = rw t at e in rw t (ap (λ l. f ∷ l) (without_none key es h)))
]) refl

no_entry : (key : BlockKey) (es : Entries) → lookup (is_key key) es ≡ None → lookup_entry (is_key key) es ≡ None
no_entry key [] e = refl
no_entry key (f ∷ es) e = (elim (is_key key f.0) as (λ t. is_key key f.0 ≡ t → lookup_entry (is_key key) (f ∷ es) ≡ None) [
  | true ↦ λ t. (let h = rw t at e in cc)
  | false ↦ λ t. (let h = rw t at e in rw t (no_entry key es h))
]) refl

-- nothing changes its place
pub promoted_none : (key : BlockKey) (es : Entries) → lookup (is_key key) es ≡ None → promoted (is_key key) es ≡ es
promoted_none key es e = rw (no_entry key es e) refl

-- ---- a key for which a block is kept

entry_found : (key : BlockKey) (xs : List ℕ) (es : Entries) → lookup (is_key key) es ≡ Some xs → lookup_entry (is_key key) es ≡ Some (key, xs)
entry_found key xs [] e = cc
entry_found key xs (f ∷ es) e = (elim (is_key key f.0) as (λ t. is_key key f.0 ≡ t → lookup_entry (is_key key) (f ∷ es) ≡ Some (key, xs)) [
  | true ↦ λ t. (let h = rw t at e in let v : f.1 ≡ xs = cc in let k = sym (same_key key f.0 t) in rw t (λ i. Some (k i, v i)))
  | false ↦ λ t. (let h = rw t at e in rw t (entry_found key xs es h))
]) refl

-- one entry is taken out
length_without : (key : BlockKey) (xs : List ℕ) (es : Entries) → lookup (is_key key) es ≡ Some xs → length (remove_entry (is_key key) es) + 1 ≡ length es
length_without key xs [] e = cc
length_without key xs (f ∷ es) e = (elim (is_key key f.0) as (λ t. is_key key f.0 ≡ t → length (remove_entry (is_key key) (f ∷ es)) + 1 ≡ length (f ∷ es)) [
  | true ↦ λ t. rw t (omega arith)
  | false ↦ λ t. (let h = rw t at e in let l = length_without key xs es h in rw t (omega (arith, l)))
]) refl

-- the entries with a block put first, as many as there is room for
abbrev pub put_first : ℕ → BlockKey → List ℕ → Entries → Entries
put_first cap key xs es = take cap ((key, xs) ∷ remove_entry (is_key key) es)

-- a block that is kept goes first
pub promoted_some : (cap : ℕ) (key : BlockKey) (xs : List ℕ) (es : Entries) → lookup (is_key key) es ≡ Some xs → length es ≤ cap
    → promoted (is_key key) es ≡ put_first cap key xs es
promoted_some cap key xs es e most =
    let l = length_without key xs es e in
    rw (entry_found key xs es e) (sym (take_all cap ((key, xs) ∷ remove_entry (is_key key) es) (omega (arith, l, most))))

-- a block that was not kept goes first, and of a full cache the last one goes
pub put_none : (cap : ℕ) (key : BlockKey) (xs : List ℕ) (es : Entries) → lookup (is_key key) es ≡ None → 0 < cap
    → put_entries is_key (lru_cache es cap) key xs ≡ put_first cap key xs es
put_none zero key xs es e some = absurd (omega (arith, some))
put_none (suc n) key xs es e some =
    let less : suc n - 1 ≡ n = omega arith in
    rw (no_entry key es e, without_none key es e) (ap (λ (m : ℕ). (key, xs) ∷ take m es) less)

-- ---- what is kept afterwards

found_in_front : (n : ℕ) (key : BlockKey) (xs : List ℕ) (es : Entries) → lookup (is_key key) (take n es) ≡ Some xs → lookup (is_key key) es ≡ Some xs
found_in_front zero key xs es e = cc
found_in_front (suc n) key xs [] e = e
found_in_front (suc n) key xs (f ∷ es) e = (elim (is_key key f.0) as (λ t. is_key key f.0 ≡ t → lookup (is_key key) (f ∷ es) ≡ Some xs) [
  | true ↦ λ t. (let h = rw t at e in rw t h)
  | false ↦ λ t. (let h = rw t at e in rw t (found_in_front n key xs es h))
]) refl

found_without : (key other : BlockKey) (xs : List ℕ) (es : Entries) → is_key other key ≡ false → lookup (is_key other) (remove_entry (is_key key) es) ≡ Some xs → lookup (is_key other) es ≡ Some xs
found_without key other xs [] n e = e
found_without key other xs (f ∷ es) n e = (elim (is_key key f.0) as (λ t. is_key key f.0 ≡ t → lookup (is_key other) (f ∷ es) ≡ Some xs) [
  | true ↦ λ t. (let h = rw t at e in let k : is_key other f.0 ≡ false = ap (is_key other) (sym (same_key key f.0 t)) ∙ n in rw k h)
  | false ↦ λ t. (let h = rw t at e in (elim (is_key other f.0) as (λ u. is_key other f.0 ≡ u → lookup (is_key other) (f ∷ es) ≡ Some xs) [
    | true ↦ λ u. (let g = rw u at h in rw u g)
    | false ↦ λ u. (let g = rw u at h in rw u (found_without key other xs es n g))
  ]) refl)
]) refl

-- what is found afterwards was found before, or is the block that was put first
pub found_after : (cap : ℕ) (key other : BlockKey) (xs ys : List ℕ) (es : Entries) → lookup (is_key other) (put_first cap key xs es) ≡ Some ys
    → (lookup (is_key other) es ≡ Some ys) ⊎ ((other ≡ key) × (ys ≡ xs))
found_after cap key other xs ys es e =
    let all = found_in_front cap other ys ((key, xs) ∷ remove_entry (is_key key) es) e in
    (elim (is_key other key) as (λ t. is_key other key ≡ t → (lookup (is_key other) es ≡ Some ys) ⊎ ((other ≡ key) × (ys ≡ xs))) [
      | true ↦ λ t. (let h = rw t at all in let v : ys ≡ xs = cc in inr (same_key other key t, v))
      | false ↦ λ t. (let h = rw t at all in inl (found_without key other ys es t h))
    ]) refl

-- a cache stays sound as a block that rises is put first
pub sound_first : (kept : LruCache BlockKey (List ℕ)) (key : BlockKey) (xs : List ℕ) → IsSound kept → Rises xs → IsSound (lru_cache (put_first kept.cap key xs kept.entries) kept.cap)
sound_first kept key xs s up = record {
  most = omega (arith, length-take kept.cap ((key, xs) ∷ remove_entry (is_key key) kept.entries));
  some = s.some;
  rise = λ other ys e. elim (found_after kept.cap key other xs ys kept.entries e) [
    | inl h ↦ s.rise other ys h
    | inr h ↦ rw h.1 up
  ];
}

-- it stays sound as it is asked for a key
pub sound_asked : (kept now : LruCache BlockKey (List ℕ)) (key : BlockKey) → IsSound kept → now ≡ lru_cache (promoted (is_key key) kept.entries) kept.cap → IsSound now
sound_asked kept now key s e = rw e ((elim (lookup (is_key key) kept.entries) as (λ o. lookup (is_key key) kept.entries ≡ o → IsSound (lru_cache (promoted (is_key key) kept.entries) kept.cap)) [
  | None ↦ λ none. rw (promoted_none key kept.entries none) s
  | Some xs ↦ λ some. rw (promoted_some kept.cap key xs kept.entries some s.most) (sound_first kept key xs s (s.rise key xs some))
]) refl)

-- what a put leaves of a cache that keeps nothing for the key
abbrev pub IsPut : {T E : Type 0} → LruCache BlockKey (List ℕ) → LruCache BlockKey (List ℕ) → BlockKey → List ℕ → Result T E → Type 0
IsPut kept now key xs result = OnOk result (now ≡ lru_cache (put_entries is_key kept key xs) kept.cap) × OnErr result (now ≡ kept)

-- it stays sound
pub sound_put : {T E : Type 0} → (kept now : LruCache BlockKey (List ℕ)) (key : BlockKey) (xs : List ℕ) (result : Result T E) → IsSound kept → lookup (is_key key) kept.entries ≡ None → Rises xs
    → IsPut kept now key xs result → IsSound now
sound_put kept now key xs (Ok v) s none up p = rw (p.0, put_none kept.cap key xs kept.entries none s.some) (sound_first kept key xs s up)
sound_put kept now key xs (Err e) s none up p = rw p.1 s

-- the block goes first, or all is as before
pub entries_put : {T E : Type 0} → (kept now : LruCache BlockKey (List ℕ)) (key : BlockKey) (xs : List ℕ) (result : Result T E) → IsSound kept → lookup (is_key key) kept.entries ≡ None
    → IsPut kept now key xs result → now.entries ≡ (if is_err result then kept.entries else put_first kept.cap key xs kept.entries)
entries_put kept now key xs (Ok v) s none p = rw p.0 (put_none kept.cap key xs kept.entries none s.some)
entries_put kept now key xs (Err e) s none p = rw p.1 refl
