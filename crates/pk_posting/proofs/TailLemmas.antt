-- One number of the tail more.
use Rattle.std.proofs.Common.{◌≡◌, ◌≢◌, ℕ, ◌<◌, ◌≤◌, ◌+◌, ◌-◌, ◌^◌, List, [], ◌∷◌, ◌++◌, length, drop, arith, refl, sym, ap, ap₂, ◌∙◌, length-append, length-drop}
use Rattle.std.proofs.lemmas.List.{take-append-drop, append_assoc, append-nil, drop-drop, drop_at, length_push, drop_all, nil_from_length}
use Rattle.pk_vbyte.specs.VariableByte.{vbyte, Takes}
use Rattle.pk_posting.specs.Posting.{tail_bytes}
use Rattle.pk_posting.specs.Tails.{Climbs, last_of, IsTail, Left, TailTo, TailRead}

pub tail_push : (before : ℕ) (xs : List ℕ) (y : ℕ) → tail_bytes before (xs ++ (y ∷ [])) ≡ tail_bytes before xs ++ vbyte (y - last_of before xs)
unfolding tail_bytes
tail_push before [] y = append-nil (vbyte (y - before))
tail_push before (x ∷ xs) y = ap (λ bs. vbyte (x - before) ++ bs) (tail_push x xs y) ∙ sym (append_assoc (vbyte (x - before)) (tail_bytes x xs) (vbyte (y - last_of x xs)))

climbs_push : (before : ℕ) (xs : List ℕ) (y : ℕ) → Climbs before xs → last_of before xs < y → y < 2 ^ 32 → Climbs before (xs ++ (y ∷ []))
climbs_push before [] y c h l = (h, l, tt)
climbs_push before (x ∷ xs) y c h l = (c.0, c.1, climbs_push x xs y c.2 h l)

pub last_push : (before : ℕ) (xs : List ℕ) (y : ℕ) → last_of before (xs ++ (y ∷ [])) ≡ y
last_push before [] y = refl
last_push before (x ∷ xs) y = last_push x xs y

pub tail_none : (bytes : List ℕ) (start before n : ℕ) (old : List ℕ) → start ≤ length bytes → TailTo bytes start before n 0 start before old old
unfolding tail_bytes
tail_none bytes start before n old h = record {
  done = [];
  out_is = sym (append-nil old);
  long = refl;
  climbs = tt;
  spelled = refl;
  here_is = refl;
  room = h;
  only = λ ys t. record { rest = ys; split = refl; climbs = t.climbs; bytes_left = t.spelled };
}

-- the next number of a tail that is there
pub record Next (bytes : List ℕ) (at here gap used : ℕ) (rest : List ℕ) : Type 0 where
  pub others : List ℕ
  pub split : rest ≡ (here + gap) ∷ others
  pub some : 0 < gap
  pub small : here + gap < 2 ^ 32
  pub climbs : Climbs (here + gap) others
  pub bytes_left : drop (at + used) bytes ≡ tail_bytes (here + gap) others

pub record Finds (bytes : List ℕ) (at here : ℕ) (rest : List ℕ) : Type 0 where
  pub y : ℕ
  pub others : List ℕ
  pub split : rest ≡ y ∷ others
  pub low : here < y
  pub high : y < 2 ^ 32
  pub climbs : Climbs y others
  pub bytes_left : drop at bytes ≡ vbyte (y - here) ++ tail_bytes y others

pub finds : (bytes : List ℕ) (at here : ℕ) (rest : List ℕ) → 0 < length rest → Climbs here rest → drop at bytes ≡ tail_bytes here rest → Finds bytes at here rest
unfolding tail_bytes
finds bytes at here [] h c e = absurd (omega arith)
finds bytes at here (y ∷ others) h c e = record { y = y; others = others; split = refl; low = c.0; high = c.1; climbs = c.2; bytes_left = e }

pub length_left : (bytes : List ℕ) (start before n i at here : ℕ) (old out ys : List ℕ) (t : TailTo bytes start before n i at here old out)
    → IsTail bytes start before n ys → (l : Left bytes at here t.done ys) → i + length l.rest ≡ n
length_left bytes start before n i at here old out ys t s l =
    let a = ap length l.split ∙ length-append t.done l.rest in
    let b = s.long in
    let c = t.long in
    omega (arith, a, b, c)

pub tail_more : (bytes : List ℕ) (start before n i at here : ℕ) (old out : List ℕ) (gap used : ℕ) → i < n
    → TailTo bytes start before n i at here old out → Takes (drop at bytes) gap used → 0 < gap → here + gap < 2 ^ 32
    → ((v : ℕ) (rest : List ℕ) → v < 2 ^ 32 → drop at bytes ≡ vbyte v ++ rest → (gap ≡ v) × (used ≡ length (vbyte v)))
    → TailTo bytes start before n (i + 1) (at + used) (here + gap) old (out ++ ((here + gap) ∷ []))
tail_more bytes start before n i at here old out gap used h t k s l unique =
    let last : here ≡ last_of before t.done = t.here_is in
    let gap_is : here + gap - last_of before t.done ≡ gap = omega arith in
    let split : drop at bytes ≡ vbyte gap ++ drop (at + used) bytes =
    sym (take-append-drop used (drop at bytes)) ∙ ap₂ (λ a b. a ++ b) k.spelled (drop-drop used at bytes) in
    record {
      done = t.done ++ ((here + gap) ∷ []);
      out_is = ap (λ xs. xs ++ ((here + gap) ∷ [])) t.out_is ∙ append_assoc old t.done ((here + gap) ∷ []);
      long = length_push t.done (here + gap) ∙ ap (λ m. m + 1) t.long;
      climbs = climbs_push before t.done (here + gap) t.climbs (omega arith) l;
      spelled = t.spelled ∙ ap (λ xs. tail_bytes before t.done ++ xs) split
          ∙ sym (append_assoc (tail_bytes before t.done) (vbyte gap) (drop (at + used) bytes))
          ∙ ap (λ xs. xs ++ drop (at + used) bytes) (ap (λ g. tail_bytes before t.done ++ vbyte g) (sym gap_is) ∙ sym (tail_push before t.done (here + gap)));
      here_is = sym (last_push before t.done (here + gap));
      room = (let w = k.within in let r = t.room in omega (arith, w, length-drop at bytes));
      only = λ ys u. (
          let left = t.only ys u in
          let size = length_left bytes start before n i at here old out ys t u left in
          let f = finds bytes at here left.rest (omega (arith, size)) left.climbs left.bytes_left in
          let low = f.low in
          let high = f.high in
          let same = unique (f.y - here) (tail_bytes f.y f.others) (omega arith) f.bytes_left in
          let y : here + gap ≡ f.y = (let g = same.0 in omega (arith, g, low)) in
          let rest : drop (at + used) bytes ≡ tail_bytes f.y f.others =
          sym (drop-drop used at bytes) ∙ ap (drop used) f.bytes_left ∙ drop_at (vbyte (f.y - here)) (tail_bytes f.y f.others) used (sym same.1) in
          record {
            rest = f.others;
            split = left.split ∙ ap (λ xs. t.done ++ xs) (f.split ∙ ap (λ z. z ∷ f.others) (sym y)) ∙ sym (append_assoc t.done ((here + gap) ∷ []) f.others);
            climbs = rw y f.climbs;
            bytes_left = rest ∙ ap (λ z. tail_bytes z f.others) (sym y);
          });
    }

-- no tail where the next number isn't there
pub no_next : (bytes : List ℕ) (start before n i at here : ℕ) (old out : List ℕ) → i < n → TailTo bytes start before n i at here old out
    → ((v : ℕ) (rest : List ℕ) → v < 2 ^ 32 → 0 < v → here + v < 2 ^ 32 → drop at bytes ≡ vbyte v ++ rest → ⊥)
    → (ys : List ℕ) → IsTail bytes start before n ys → ⊥
no_next bytes start before n i at here old out h t none ys u =
    let left = t.only ys u in
    let size = length_left bytes start before n i at here old out ys t u left in
    let f = finds bytes at here left.rest (omega (arith, size)) left.climbs left.bytes_left in
    let low = f.low in
    let high = f.high in
    none (f.y - here) (tail_bytes f.y f.others) (omega arith) (omega arith) (omega arith) f.bytes_left

tail_nil : (before : ℕ) → tail_bytes before [] ≡ []
unfolding tail_bytes
tail_nil before = refl

pub tail_all : (bytes : List ℕ) (start before n at here : ℕ) (old out : List ℕ) → TailTo bytes start before n n at here old out → at ≡ length bytes
    → TailRead bytes start before n old out
tail_all bytes start before n at here old out t e = record {
  done = t.done;
  out_is = t.out_is;
  tail = record {
    long = t.long;
    climbs = t.climbs;
    spelled = t.spelled ∙ ap (λ xs. tail_bytes before t.done ++ xs) (drop_all at bytes (omega arith)) ∙ append-nil (tail_bytes before t.done);
  };
  only = λ ys u. (
      let left = t.only ys u in
      let size = length_left bytes start before n n at here old out ys t u left in
      left.split ∙ ap (λ xs. t.done ++ xs) (nil_from_length left.rest (omega (arith, size))) ∙ append-nil t.done);
}

pub tail_over : (bytes : List ℕ) (start before n at here : ℕ) (old out : List ℕ) → TailTo bytes start before n n at here old out → at ≢ length bytes
    → (ys : List ℕ) → IsTail bytes start before n ys → ⊥
tail_over bytes start before n at here old out t ne ys u =
    let left = t.only ys u in
    let size = length_left bytes start before n n at here old out ys t u left in
    let none : drop at bytes ≡ [] = left.bytes_left ∙ ap (tail_bytes here) (nil_from_length left.rest (omega (arith, size))) ∙ tail_nil here in
    let zero_left = ap length none in
    let r = t.room in
    ne (omega (arith, zero_left, length-drop at bytes, r))
