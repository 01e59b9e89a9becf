-- Parts of a text that are put and written in turn.
use Rattle.std.proofs.Common.{◌≡◌, ℕ, ◌+◌, ◌<◌, ◌-◌, Option, Some, None, List, [], ◌∷◌, ◌++◌, get_or, map, length, take, drop, length-drop, refl, sym, ap, ◌∙◌, subst, append_assoc, arith, Result, Ok, Err}
use Rattle.std.specs.Prelude.{IsErrAnd}
use Rattle.std.specs.List.{flat_map}
use Rattle.std.specs.Io.KnownBytes.{Appends, Keeps}
use Rattle.std.proofs.Math.Seq.{take-length, take-add}
use Rattle.std.proofs.lemmas.List.{take-append-drop, take_more, append-nil}
use Rattle.std.proofs.lemmas.Grind.{common_steps, flat_map-append}
use Rattle.pk_shell.specs.Sending.{Sent, SentPart, IsUnderWay, HasPut, HasStopped, HasFlushed, Puts, Flushes}

-- APPENDING
pub appends_none : (w : Option (List ℕ)) → Appends w w []
appends_none None = tt
appends_none (Some xs) = sym (append-nil xs)

pub appends_then : (w0 w1 w2 : Option (List ℕ)) (a b : List ℕ) → Appends w0 w1 a → Appends w1 w2 b → Appends w0 w2 (a ++ b)
appends_then None w1 w2 a b h k = tt
appends_then (Some xs) None w2 a b h k = absurd h
appends_then (Some xs) (Some ys) None a b h k = absurd k
appends_then (Some xs) (Some ys) (Some zs) a b h k = k ∙ ap (λ t. t ++ b) h ∙ append_assoc xs a b

keeps_then : (w0 w1 w2 : Option (List ℕ)) (a : List ℕ) → Appends w0 w1 a → Keeps w1 w2 → Appends w0 w2 a
keeps_then None w1 w2 a h k = tt
keeps_then (Some xs) None w2 a h k = absurd h
keeps_then (Some xs) (Some ys) None a h k = absurd k
keeps_then (Some xs) (Some ys) (Some zs) a h k = k ∙ h

-- THE LOOP OVER WRITE
rest_missing : (n : ℕ) (bytes : List ℕ) → n < length bytes → 0 < length (drop n bytes)
rest_missing n bytes h = let e : length (drop n bytes) ≡ length bytes - n = length-drop n bytes in omega arith

stopped_with : (w0 w1 : Option (List ℕ)) (n : ℕ) (bytes : List ℕ) → n < length bytes → Appends w0 w1 (take n bytes) → SentPart w0 w1 bytes
stopped_with w0 w1 n bytes short h = record {
  part = take n bytes;
  missing = drop n bytes;
  some_missing = rest_missing n bytes short;
  whole = sym (take-append-drop n bytes);
  written = h;
}

-- the writer failed
pub stopped : (w0 w1 w2 : Option (List ℕ)) (n : ℕ) (bytes : List ℕ) → n < length bytes → Appends w0 w1 (take n bytes) → Keeps w1 w2 → SentPart w0 w2 bytes
stopped w0 w1 w2 n bytes short h k = stopped_with w0 w2 n bytes short (keeps_then w0 w1 w2 _ h k)

-- the writer took no byte
pub stopped_at : (w0 w1 w2 : Option (List ℕ)) (n m : ℕ) (bytes more : List ℕ) → n < length bytes → Appends w0 w1 (take n bytes) → Appends w1 w2 (take m more) → m ≡ 0 → SentPart w0 w2 bytes
stopped_at w0 w1 w2 n m bytes more short h k z = stopped_with w0 w2 n bytes short (rw (append-nil (take n bytes)) at (appends_then w0 w1 w2 _ [] h (rw z at k)))

pub rest_whole : {X : Type 0} (done : ℕ) (bytes : List X) → take (length bytes - done) (drop done bytes) ≡ drop done bytes
rest_whole done bytes = rw (← length-drop done bytes) (take-length (drop done bytes))

-- the writer took n more bytes
pub went_on : (w0 w1 w2 : Option (List ℕ)) (done n : ℕ) (bytes : List ℕ) → Appends w0 w1 (take done bytes)
    → Appends w1 w2 (take n (take (length bytes - done) (drop done bytes))) → Appends w0 w2 (take (done + n) bytes)
went_on w0 w1 w2 done n bytes h k = rw (take-add done n bytes) (appends_then w0 w1 w2 _ _ h (rw (rest_whole done bytes) at k))

-- PUTTING
pub stopped_before : (w0 w1 : Option (List ℕ)) (a b : List ℕ) → SentPart w0 w1 a → SentPart w0 w1 (a ++ b)
stopped_before w0 w1 a b s = record {
  part = s.part;
  missing = s.missing ++ b;
  some_missing = let h : 0 < length s.missing = s.some_missing in grind (arith, common_steps);
  whole = ap (λ t. t ++ b) s.whole ∙ append_assoc s.part s.missing b;
  written = s.written;
}

pub put_then : (o o1 o2 : List ℕ) (w w1 w2 : Option (List ℕ)) (a b : List ℕ) → HasPut o w o1 w1 a → HasPut o1 w1 o2 w2 b → HasPut o w o2 w2 (a ++ b)
put_then o o1 o2 w w1 w2 a b first second w0 before u = subst (IsUnderWay w0 w2 o2) (append_assoc before a b) (second w0 (before ++ a) (first w0 before u))

-- the first text failed
pub stops_first : (o : List ℕ) (w w1 : Option (List ℕ)) (a b : List ℕ) → HasStopped o w w1 a → HasStopped o w w1 (a ++ b)
stops_first o w w1 a b first w0 before u = subst (SentPart w0 w1) (append_assoc before a b) (stopped_before w0 w1 (before ++ a) b (first w0 before u))

-- the second text failed
pub stops_then : (o o1 : List ℕ) (w w1 w2 : Option (List ℕ)) (a b : List ℕ) → HasPut o w o1 w1 a → HasStopped o1 w1 w2 b → HasStopped o w w2 (a ++ b)
stops_then o o1 w w1 w2 a b first second w0 before u = subst (SentPart w0 w2) (append_assoc before a b) (second w0 (before ++ a) (first w0 before u))

-- two texts in turn, by how the second call ended
pub puts_then : {T E : Type 0} (o o1 o2 : List ℕ) (w w1 w2 : Option (List ℕ)) (result : Result T E) (a b : List ℕ) → HasPut o w o1 w1 a → Puts o1 w1 result o2 w2 b → Puts o w result o2 w2 (a ++ b)
puts_then o o1 o2 w w1 w2 (Ok x) a b first second = put_then o o1 o2 w w1 w2 a b first second
puts_then o o1 o2 w w1 w2 (Err e) a b first second = stops_then o o1 w w1 w2 a b first second

-- a call that failed with the call that it made
pub stopped_by : {T E : Type 0} (result : Result T E) (P : E → Type 0) (o o1 : List ℕ) (w w1 : Option (List ℕ)) (text : List ℕ)
    → IsErrAnd result P → HasStopped o w w1 text → Puts o w result o1 w1 text
stopped_by (Ok x) P o o1 w w1 text err h = absurd err
stopped_by (Err e) P o o1 w w1 text err h = h

pub unflushed_by : {T E : Type 0} (result : Result T E) (P : E → Type 0) (o o1 : List ℕ) (w w1 : Option (List ℕ))
    → IsErrAnd result P → HasStopped o w w1 [] → Flushes o w result o1 w1
unflushed_by (Ok x) P o o1 w w1 err h = absurd err
unflushed_by (Err e) P o o1 w w1 err h = h

pub unsent_by : {T E : Type 0} (result : Result T E) (P : E → Type 0) (w w1 : Option (List ℕ)) (text : List ℕ)
    → IsErrAnd result P → SentPart w w1 text → Sent w w1 result text
unsent_by (Ok x) P w w1 text err h = absurd err
unsent_by (Err e) P w w1 text err h = h

-- FLUSHING
pub flushed : (o : List ℕ) (w w1 : Option (List ℕ)) (w0 : Option (List ℕ)) (text : List ℕ) → Appends w w1 o → IsUnderWay w0 w o text → Appends w0 w1 text
flushed o w w1 w0 text h u = subst (Appends w0 w1) (sym u.whole) (appends_then w0 w w1 u.part o u.written h)

pub flush_stops : (o : List ℕ) (w w1 : Option (List ℕ)) → SentPart w w1 o → HasStopped o w w1 []
flush_stops o w w1 s w0 before u = subst (SentPart w0 w1) (sym (append-nil before)) (record {
  part = u.part ++ s.part;
  missing = s.missing;
  some_missing = s.some_missing;
  whole = u.whole ∙ ap (λ t. u.part ++ t) s.whole ∙ sym (append_assoc u.part s.part s.missing);
  written = appends_then w0 w w1 u.part s.part u.written s.written;
})

-- MORE BYTES, as far as there is room
pub put_behind : (o o1 : List ℕ) (w : Option (List ℕ)) (bytes : List ℕ) → o1 ≡ o ++ bytes → HasPut o w o1 w bytes
put_behind o o1 w bytes e w0 before u = record {
  part = u.part;
  written = u.written;
  whole = ap (λ t. t ++ bytes) u.whole ∙ append_assoc u.part o bytes ∙ ap (λ t. u.part ++ t) (sym e);
}

put_after_flush : (o o1 o2 : List ℕ) (w w1 : Option (List ℕ)) (bytes : List ℕ) → HasFlushed o w o1 w1 → o2 ≡ o1 ++ bytes
    → HasPut o w o2 w1 bytes
put_after_flush o o1 o2 w w1 bytes f e w0 before u = record {
  part = before;
  written = f.0 w0 before u;
  whole = ap (λ t. before ++ t) (sym (e ∙ ap (λ t. t ++ bytes) f.1));
}

pub put_on : (o o1 o2 o3 : List ℕ) (w w1 w2 : Option (List ℕ)) (done n : ℕ) (bytes : List ℕ)
    → HasPut o w o1 w1 (take done bytes) → HasFlushed o1 w1 o2 w2
    → o3 ≡ o2 ++ take n (take (length bytes - done) (drop done bytes)) → HasPut o w o3 w2 (take (done + n) bytes)
put_on o o1 o2 o3 w w1 w2 done n bytes so_far flushed e =
    rw (take-add done n bytes)
    (put_then o o1 o3 w w1 w2 _ _ so_far (put_after_flush o1 o2 o3 w1 w2 _ flushed (rw (rest_whole done bytes) at e)))

pub put_stops : (o o1 : List ℕ) (w w1 w2 : Option (List ℕ)) (done : ℕ) (bytes : List ℕ)
    → HasPut o w o1 w1 (take done bytes) → HasStopped o1 w1 w2 [] → HasStopped o w w2 bytes
put_stops o o1 w w1 w2 done bytes so_far stops =
    let whole : (take done bytes ++ []) ++ drop done bytes ≡ bytes =
    ap (λ t. t ++ drop done bytes) (append-nil (take done bytes)) ∙ take-append-drop done bytes in
    subst (HasStopped o w w2) whole (stops_first o w w2 _ (drop done bytes) (stops_then o o1 w w1 w2 _ _ so_far stops))

-- A REPLY
pub sent : (o0 o1 o2 : List ℕ) (w w1 w2 : Option (List ℕ)) (text : List ℕ) → o0 ≡ [] → HasPut o0 w o1 w1 text → HasFlushed o1 w1 o2 w2 → Appends w w2 text
sent o0 o1 o2 w w1 w2 text e p f = f.0 w text (p w [] (record { part = []; written = appends_none w; whole = sym e }))

pub cut_before : (o0 : List ℕ) (w w1 : Option (List ℕ)) (text : List ℕ) → o0 ≡ [] → HasStopped o0 w w1 text → SentPart w w1 text
cut_before o0 w w1 text e s = s w [] (record { part = []; written = appends_none w; whole = sym e })

pub cut_in_flush : (o0 o1 : List ℕ) (w w1 w2 : Option (List ℕ)) (text : List ℕ) → o0 ≡ [] → HasPut o0 w o1 w1 text → HasStopped o1 w1 w2 [] → SentPart w w2 text
cut_in_flush o0 o1 w w1 w2 text e p s = subst (SentPart w w2) (append-nil text) (s w text (p w [] (record { part = []; written = appends_none w; whole = sym e })))

-- by how the flush ended
pub sends : {T E : Type 0} (o0 o1 o2 : List ℕ) (w w1 w2 : Option (List ℕ)) (result : Result T E) (text : List ℕ) → o0 ≡ [] → HasPut o0 w o1 w1 text → Flushes o1 w1 result o2 w2 → Sent w w2 result text
sends o0 o1 o2 w w1 w2 (Ok x) text e p f = sent o0 o1 o2 w w1 w2 text e p f
sends o0 o1 o2 w w1 w2 (Err x) text e p s = cut_in_flush o0 o1 w w1 w2 text e p s

-- LISTS
each_cut : {X : Type 0} (f : X → List ℕ) (xs : List X) (i : ℕ) (d : X) → i < length xs
    → (flat_map f (take i xs) ++ f (get_or xs i d)) ++ flat_map f (drop (i + 1) xs) ≡ flat_map f xs
each_cut f xs i d h =
    let front : take (i + 1) xs ≡ take i xs ++ get_or xs i d ∷ [] = take_more xs i d h in
    let whole : take (i + 1) xs ++ drop (i + 1) xs ≡ xs = take-append-drop (i + 1) xs in
    let one : flat_map f (get_or xs i d ∷ []) ≡ f (get_or xs i d) = append-nil (f (get_or xs i d)) in
    ap (λ t. (flat_map f (take i xs) ++ t) ++ flat_map f (drop (i + 1) xs)) (sym one)
    ∙ ap (λ t. t ++ flat_map f (drop (i + 1) xs)) (sym (flat_map-append f (take i xs) (get_or xs i d ∷ [])))
    ∙ sym (flat_map-append f (take i xs ++ get_or xs i d ∷ []) (drop (i + 1) xs))
    ∙ ap (λ t. flat_map f (t ++ drop (i + 1) xs)) (sym front)
    ∙ ap (flat_map f) whole

pub one_more : {X : Type 0} (f : X → List ℕ) (xs : List X) (i : ℕ) (d : X) → i < length xs → flat_map f (take i xs) ++ f (get_or xs i d) ≡ flat_map f (take (i + 1) xs)
one_more f xs i d h =
    let one : flat_map f (get_or xs i d ∷ []) ≡ f (get_or xs i d) = append-nil (f (get_or xs i d)) in
    ap (λ t. flat_map f (take i xs) ++ t) (sym one) ∙ sym (flat_map-append f (take i xs) (get_or xs i d ∷ [])) ∙ ap (flat_map f) (sym (take_more xs i d h))

-- the texts of the items so far are put, and one more
pub put_item : {X : Type 0} (o o1 o2 : List ℕ) (w w1 w2 : Option (List ℕ)) (f : X → List ℕ) (xs : List X) (i : ℕ) (d : X) → i < length xs
    → HasPut o w o1 w1 (flat_map f (take i xs)) → HasPut o1 w1 o2 w2 (f (get_or xs i d)) → HasPut o w o2 w2 (flat_map f (take (i + 1) xs))
put_item o o1 o2 w w1 w2 f xs i d h so_far one = subst (HasPut o w o2 w2) (one_more f xs i d h) (put_then o o1 o2 w w1 w2 _ _ so_far one)

-- one of them is cut short
pub item_stops : {X : Type 0} (o o1 : List ℕ) (w w1 w2 : Option (List ℕ)) (f : X → List ℕ) (xs : List X) (i : ℕ) (d : X) → i < length xs
    → HasPut o w o1 w1 (flat_map f (take i xs)) → HasStopped o1 w1 w2 (f (get_or xs i d)) → HasStopped o w w2 (flat_map f xs)
item_stops o o1 w w1 w2 f xs i d h so_far one =
    subst (HasStopped o w w2) (each_cut f xs i d h) (stops_first o w w2 _ (flat_map f (drop (i + 1) xs)) (stops_then o o1 w w1 w2 _ _ so_far one))

pub flat_map-map : {X : Type 0} (f : ℕ → List ℕ) (g : X → ℕ) (xs : List X) → flat_map f (map g xs) ≡ flat_map (λ x. f (g x)) xs
flat_map-map f g [] = refl
flat_map-map f g (x ∷ xs) = ap (λ t. f (g x) ++ t) (flat_map-map f g xs)

-- the texts of items are put behind what waits
pub put_front : {X : Type 0} (o o1 : List ℕ) (w : Option (List ℕ)) (f : ℕ → List ℕ) (g : X → ℕ) (xs : List X)
    → o1 ≡ o ++ flat_map f (map g xs) → HasPut o w o1 w (flat_map (λ x. f (g x)) xs)
put_front o o1 w f g xs e = put_behind o o1 w _ (e ∙ ap (λ t. o ++ t) (flat_map-map f g xs))

-- the texts of the items so far are put, and those of n more
pub put_items : {X : Type 0} (o o1 o2 : List ℕ) (w w1 : Option (List ℕ)) (f : ℕ → List ℕ) (g : X → ℕ) (xs : List X) (i n : ℕ)
    → HasPut o w o1 w1 (flat_map (λ x. f (g x)) (take i xs)) → o2 ≡ o1 ++ flat_map f (map g (take n (take (length xs - i) (drop i xs))))
    → HasPut o w o2 w1 (flat_map (λ x. f (g x)) (take (i + n) xs))
put_items o o1 o2 w w1 f g xs i n so_far e =
    rw (take-add i n xs, flat_map-append) (put_then o o1 o2 w w1 w1 _ _ so_far (put_front o1 o2 w1 f g (take n (drop i xs)) (rw (rest_whole i xs) at e)))
