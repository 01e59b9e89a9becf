-- A word of at most eight bytes is known by its length and its fingerprint.
use Rattle.std.proofs.Common.{◌≡◌, ℕ, ◌+◌, ◌-◌, ◌*◌, ◌/◌, ◌<◌, ◌≤◌, List, length, slice_index, refl, sym, subst, ◌∙◌, arith, inl, inr}
use Rattle.std.proofs.lemmas.Bool.{cases_eq, cases_lt, le-leb, lt-leb, lt-ltb}
use Rattle.std.proofs.lemmas.List.{ext_get_or}
use Rattle.pk_terms.specs.Fingerprints.{fingerprint_of, four_at, short_of}

-- the low digit of a number, and what is above it
digits_256 : (x y a b : ℕ) → x < 256 → y < 256 → x + a * 256 ≡ y + b * 256 → (x ≡ y) × (a ≡ b)
digits_256 x y a b xl yl e = elim (cases_lt a b) [
  | inl less ↦ absurd (omega (arith, e))
  | inr more ↦ elim (cases_lt b a) [
    | inl less ↦ absurd (omega (arith, e))
    | inr least ↦ (omega (arith, e), omega (arith, more, least))
  ]
]

halves : (x y a b : ℕ) → x < 4294967296 → y < 4294967296 → x + a * 4294967296 ≡ y + b * 4294967296 → (x ≡ y) × (a ≡ b)
halves x y a b xl yl e = elim (cases_lt a b) [
  | inl less ↦ absurd (omega (arith, e))
  | inr more ↦ elim (cases_lt b a) [
    | inl less ↦ absurd (omega (arith, e))
    | inr least ↦ (omega (arith, e), omega (arith, more, least))
  ]
]

module _ (v w : List ℕ) (v_bytes : (k : ℕ) → slice_index v k < 256) (w_bytes : (k : ℕ) → slice_index w k < 256) where
  abbrev Same : ℕ → Type 0
  Same k = slice_index v k ≡ slice_index w k

  four_low : (at : ℕ) → (four_at v at < 4294967296) × (four_at w at < 4294967296)
  four_low at =
      let v0 = v_bytes at in let v1 = v_bytes (at + 1) in let v2 = v_bytes (at + 2) in let v3 = v_bytes (at + 3) in
      let w0 = w_bytes at in let w1 = w_bytes (at + 1) in let w2 = w_bytes (at + 2) in let w3 = w_bytes (at + 3) in
      (omega arith, omega arith)

  -- four bytes are those that give their number
  four_same : (at : ℕ) → four_at v at ≡ four_at w at → Same at × (Same (at + 1) × (Same (at + 2) × Same (at + 3)))
  four_same at e =
      let x = slice_index v at in let y = slice_index w at in
      let x1 = slice_index v (at + 1) in let y1 = slice_index w (at + 1) in
      let x2 = slice_index v (at + 2) in let y2 = slice_index w (at + 2) in
      let x3 = slice_index v (at + 3) in let y3 = slice_index w (at + 3) in
      let a = digits_256 x y (x1 + x2 * 256 + x3 * 65536) (y1 + y2 * 256 + y3 * 65536) (v_bytes at) (w_bytes at) (omega (arith, e)) in
      let b = digits_256 x1 y1 (x2 + x3 * 256) (y2 + y3 * 256) (v_bytes (at + 1)) (w_bytes (at + 1)) (omega (arith, a.1)) in
      let c = digits_256 x2 y2 x3 y3 (v_bytes (at + 2)) (w_bytes (at + 2)) (omega (arith, b.1)) in
      (a.0, (b.0, (c.0, c.1)))

  four_byte : (at k : ℕ) → four_at v at ≡ four_at w at → at ≤ k → k < at + 4 → Same k
  four_byte at k e from to =
      let bytes = four_same at e in
      elim (cases_eq k at) [
        | inl is ↦ subst Same (sym is) bytes.0
        | inr not0 ↦ elim (cases_eq k (at + 1)) [
          | inl is ↦ subst Same (sym is) bytes.1.0
          | inr not1 ↦ elim (cases_eq k (at + 2)) [
            | inl is ↦ subst Same (sym is) bytes.1.1.0
            | inr not2 ↦ let is : at + 3 ≡ k = omega (arith, not0, not1, not2) in subst Same is bytes.1.1.1
          ]
        ]
      ]

  module _ (n : ℕ) (v_len : length v ≡ n) (w_len : length w ≡ n) where
    -- of four bytes and more
    wide : (s : List ℕ) → length s ≡ n → 4 ≤ n → short_of s ≡ four_at s 0 + four_at s (n - 4) * 4294967296
    unfolding short_of
    wide s e le = rw (e, le-leb 4 n le) refl

    -- of fewer
    narrow : (s : List ℕ) → length s ≡ n → n < 4 → 0 < n → short_of s ≡ slice_index s 0 + slice_index s (n / 2) * 256 + slice_index s (n - 1) * 65536
    unfolding short_of
    narrow s e lt some = rw (e, lt-leb 4 n lt, lt-ltb 0 n some) refl

    wide_same : 4 ≤ n → n ≤ 8 → short_of v ≡ short_of w → (k : ℕ) → k < n → Same k
    wide_same le most e k lt =
        let low = four_low 0 in
        let parts = halves (four_at v 0) (four_at w 0) (four_at v (n - 4)) (four_at w (n - 4)) low.0 low.1 (sym (wide v v_len le) ∙ e ∙ wide w w_len le) in
        elim (cases_lt k 4) [
          | inl first ↦ four_byte 0 k parts.0 (omega arith) (omega (arith, first))
          | inr last ↦ four_byte (n - 4) k parts.1 (omega (arith, last)) (omega (arith, last))
        ]

    narrow_same : n < 4 → short_of v ≡ short_of w → (k : ℕ) → k < n → Same k
    narrow_same less e k lt =
        let some : 0 < n = omega arith in
        let x1 = slice_index v (n / 2) in let y1 = slice_index w (n / 2) in
        let x2 = slice_index v (n - 1) in let y2 = slice_index w (n - 1) in
        let f = sym (narrow v v_len less some) ∙ e ∙ narrow w w_len less some in
        let a = digits_256 (slice_index v 0) (slice_index w 0) (x1 + x2 * 256) (y1 + y2 * 256) (v_bytes 0) (w_bytes 0) (omega (arith, f)) in
        let b = digits_256 x1 y1 x2 y2 (v_bytes (n / 2)) (w_bytes (n / 2)) (omega (arith, a.1)) in
        elim (cases_eq k 0) [
          | inl is ↦ subst Same (sym is) a.0
          | inr not0 ↦ elim (cases_eq k (n - 1)) [
            | inl is ↦ subst Same (sym is) b.1
            | inr not2 ↦ let is : n / 2 ≡ k = omega (arith, not0, not2) in subst Same is b.0
          ]
        ]

    short_same : n ≤ 8 → short_of v ≡ short_of w → v ≡ w
    short_same most e =
        ext_get_or 0 v w (v_len ∙ sym w_len) (λ k lt.
        let below : k < n = omega (arith, lt, v_len) in
        elim (cases_lt n 4) [
          | inl less ↦ narrow_same less e k below
          | inr more ↦ wide_same more most e k below
        ])

  fingerprint_short : (s : List ℕ) → length s ≤ 8 → fingerprint_of s ≡ short_of s
  unfolding fingerprint_of
  fingerprint_short s le = rw (le-leb (length s) 8 le) refl

  pub known : length v ≡ length w → length v ≤ 8 → fingerprint_of v ≡ fingerprint_of w → v ≡ w
  known len short e =
      short_same (length w) len refl (omega (arith, len, short))
      (sym (fingerprint_short v short) ∙ e ∙ fingerprint_short w (omega (arith, len, short)))
