-- A text put in parts: bytes as they are, and the escape of the byte behind them.
use Rattle.std.proofs.Common.{◌≡◌, ℕ, ◌+◌, ◌-◌, Option, Some, None, List, [], ◌∷◌, ◌++◌, get_or, length, take, drop, sym, ap, ◌∙◌, append_assoc, Result}
use Rattle.std.specs.List.{flat_map}
use Rattle.std.proofs.lemmas.List.{append-nil}
use Rattle.std.proofs.lemmas.Grind.{flat_map-append}
use Rattle.memchr.specs.Find.{IsFirstByte, is_byte2}
use Rattle.pk_shell.specs.ReplyText.{escaped}
use Rattle.pk_shell.specs.Sending.{HasPut, HasStopped, Puts}
use Rattle.pk_shell.proofs.Parts.{put_then, puts_then, stops_first, stops_then, rest_whole}
use Rattle.pk_shell.proofs.Splits.{same_before, same_at_all, split_at_escape}

-- a front of the text is put, and this is the rest of it
module _ (o o1 : List ℕ) (w w1 : Option (List ℕ)) (text front rest : List ℕ) (split : text ≡ front ++ rest) (so_far : HasPut o w o1 w1 (flat_map escaped front)) where
  -- nothing is left to escape
  pub rest_put : {T E : Type 0} (result : Result T E) (o2 : List ℕ) (w2 : Option (List ℕ))
      → IsFirstByte (is_byte2 10 92) rest None → Puts o1 w1 result o2 w2 rest
      → Puts o w result o2 w2 (flat_map escaped text)
  rest_put result o2 w2 none p =
      let whole : flat_map escaped text ≡ flat_map escaped front ++ rest =
      ap (flat_map escaped) split ∙ flat_map-append escaped front rest
      ∙ ap (λ t. flat_map escaped front ++ t) (same_at_all rest none) in
      rw whole (puts_then o o1 o2 w w1 w2 result (flat_map escaped front) rest so_far p)

  -- the next byte to be escaped
  module _ (k : ℕ) (found : IsFirstByte (is_byte2 10 92) rest (Some k)) where
    split_on : text ≡ ((front ++ take k rest) ++ get_or rest k 0 ∷ []) ++ drop (k + 1) rest
    split_on =
        split ∙ ap (λ t. front ++ t) (split_at_escape rest k found)
        ∙ sym (append_assoc front (take k rest ++ get_or rest k 0 ∷ []) (drop (k + 1) rest))
        ∙ ap (λ t. t ++ drop (k + 1) rest) (sym (append_assoc front (take k rest) (get_or rest k 0 ∷ [])))

    pub split_behind : text ≡ ((front ++ take k rest) ++ get_or rest k 0 ∷ []) ++ take (length rest - (k + 1)) (drop (k + 1) rest)
    split_behind =
        split_on ∙ ap (λ t. ((front ++ take k rest) ++ get_or rest k 0 ∷ []) ++ t) (sym (rest_whole (k + 1) rest))

    front_is : flat_map escaped ((front ++ take k rest) ++ get_or rest k 0 ∷ [])
        ≡ (flat_map escaped front ++ take k rest) ++ escaped (get_or rest k 0)
    front_is =
        flat_map-append escaped (front ++ take k rest) (get_or rest k 0 ∷ [])
        ∙ ap (λ t. t ++ flat_map escaped (get_or rest k 0 ∷ []))
        (flat_map-append escaped front (take k rest) ∙ ap (λ t. flat_map escaped front ++ t) (same_before rest k found))
        ∙ ap (λ t. (flat_map escaped front ++ take k rest) ++ t) (append-nil (escaped (get_or rest k 0)))

    text_is : flat_map escaped text
        ≡ (flat_map escaped front ++ take k rest) ++ (escaped (get_or rest k 0) ++ flat_map escaped (drop (k + 1) rest))
    text_is =
        ap (flat_map escaped) split_on
        ∙ flat_map-append escaped ((front ++ take k rest) ++ get_or rest k 0 ∷ []) (drop (k + 1) rest)
        ∙ ap (λ t. t ++ flat_map escaped (drop (k + 1) rest)) front_is
        ∙ append_assoc (flat_map escaped front ++ take k rest) (escaped (get_or rest k 0)) (flat_map escaped (drop (k + 1) rest))

    -- the bytes before it are cut short
    pub front_stops : (w2 : Option (List ℕ)) → HasStopped o1 w1 w2 (take k rest)
        → HasStopped o w w2 (flat_map escaped text)
    front_stops w2 s =
        rw text_is
        (stops_first o w w2 (flat_map escaped front ++ take k rest) (escaped (get_or rest k 0) ++ flat_map escaped (drop (k + 1) rest))
        (stops_then o o1 w w1 w2 (flat_map escaped front) (take k rest) so_far s))

    module _ (o2 : List ℕ) (w2 : Option (List ℕ)) (put : HasPut o1 w1 o2 w2 (take k rest)) (escape : List ℕ) (is : escape ≡ escaped (get_or rest k 0)) where
      -- the escape is cut short
      pub escape_stops : (w3 : Option (List ℕ)) → HasStopped o2 w2 w3 escape
          → HasStopped o w w3 (flat_map escaped text)
      escape_stops w3 s =
          rw text_is
          (stops_then o o2 w w2 w3 (flat_map escaped front ++ take k rest) (escaped (get_or rest k 0) ++ flat_map escaped (drop (k + 1) rest))
          (put_then o o1 o2 w w1 w2 (flat_map escaped front) (take k rest) so_far put)
          (stops_first o2 w2 w3 (escaped (get_or rest k 0)) (flat_map escaped (drop (k + 1) rest)) (rw is at s)))

      pub escape_put : (o3 : List ℕ) (w3 : Option (List ℕ)) → HasPut o2 w2 o3 w3 escape
          → HasPut o w o3 w3 (flat_map escaped ((front ++ take k rest) ++ get_or rest k 0 ∷ []))
      escape_put o3 w3 p =
          rw front_is
          (put_then o o2 o3 w w2 w3 (flat_map escaped front ++ take k rest) (escaped (get_or rest k 0))
          (put_then o o1 o2 w w1 w2 (flat_map escaped front) (take k rest) so_far put) (rw is at p))
