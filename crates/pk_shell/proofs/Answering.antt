-- What one line of a chunk, and the whole chunk, do to what was done so far.
use Rattle.std.proofs.Common.{◌≡◌, ℕ, ◌+◌, ◌-◌, Bool, true, false, Option, Some, None, List, [], ◌∷◌, ◌++◌, length, take, drop, refl, sym, ap, ◌∙◌, subst, append_assoc, Result, Ok, Err}
use Rattle.std.proofs.lemmas.List.{append-nil}
use Rattle.std.specs.Prelude.{IsErrAnd}
use Rattle.memchr.specs.Find.{IsFirstByte, is_byte}
use Rattle.pk_shell.specs.Asked.{Asked, asked_held}
use Rattle.pk_shell.specs.Transcript.{Transcript, HasQuit, IsCut, AnswersLine, AnswersLines, Continues, Quits, IsCutOff, IsTakenTo, held_after}
use Rattle.pk_shell.proofs.Parts.{rest_whole}
use Rattle.pk_shell.proofs.Splits.{no_feed_before, no_feed_at_all, split_at_feed}
use Rattle.pk_shell.proofs.Transcripts.{line_goes_on, line_answered, line_quits, line_cut, quit_more, cut_more}

-- JOINING
parted : (a b c d : List ℕ) → ((a ++ b) ++ c) ++ d ≡ a ++ (b ++ (c ++ d))
parted a b c d = append_assoc (a ++ b) c d ∙ append_assoc a b (c ++ d)

-- a chunk in its front, a line, its line feed and what follows
chunk_is : (chunk front rest line more : List ℕ) → chunk ≡ front ++ rest → rest ≡ (line ++ 10 ∷ []) ++ more
    → chunk ≡ (front ++ (line ++ 10 ∷ [])) ++ more
chunk_is chunk front rest line more e k =
    e ∙ ap (λ r. front ++ r) k ∙ sym (append_assoc front (line ++ 10 ∷ []) more)

read_is : (read chunk front line more : List ℕ) → chunk ≡ (front ++ (line ++ 10 ∷ [])) ++ more
    → (((read ++ front) ++ line) ++ 10 ∷ []) ++ more ≡ read ++ chunk
read_is read chunk front line more e =
    ap (λ t. t ++ more) (parted read front line (10 ∷ [])) ∙ append_assoc read (front ++ (line ++ 10 ∷ [])) more
    ∙ ap (λ t. read ++ t) (sym e)

module _ {S : Type 0} (Replies : S → Asked → List ℕ → S → Type 0) where
  -- the front of a chunk
  pub none_taken : (h : Option (List ℕ)) (s : S) (w : Option (List ℕ)) (chunk : List ℕ)
      → IsTakenTo Replies h s w chunk chunk h s w
  none_taken h s w chunk = record {
    front = [];
    split = refl;
    continues = λ s0 w0 read t. subst (λ r. Transcript Replies s0 w0 r h s w) (sym (append-nil read)) t;
  }

  module _ (h : Option (List ℕ)) (s : S) (w : Option (List ℕ)) (chunk rest : List ℕ) (h1 : Option (List ℕ)) (s1 : S) (w1 : Option (List ℕ)) (t : IsTakenTo Replies h s w chunk rest h1 s1 w1) where
    -- what follows the last line feed
    pub all_taken : (h2 : Option (List ℕ)) → IsFirstByte (is_byte 10) rest None → h2 ≡ held_after h1 rest
        → Continues Replies h s w chunk h2 s1 w1
    all_taken h2 none e s0 w0 read before =
        let after = line_goes_on Replies s0 s1 w0 w1 h1 (read ++ t.front) (t.continues s0 w0 read before) rest (no_feed_at_all rest none) in
        let whole : (read ++ t.front) ++ rest ≡ read ++ chunk =
        append_assoc read t.front rest ∙ ap (λ x. read ++ x) (sym t.split) in
        rw e (subst (λ x. Transcript Replies s0 w0 x (held_after h1 rest) s1 w1) whole after)

    -- a line that ends
    module _ (k : ℕ) (found : IsFirstByte (is_byte 10) rest (Some k)) (h2 : Option (List ℕ)) (held : h2 ≡ held_after h1 (take k rest)) (s2 : S) (w2 : Option (List ℕ)) where
      whole_line : (s0 : S) (w0 : Option (List ℕ)) (read : List ℕ) → Transcript Replies s0 w0 read h s w
          → Transcript Replies s0 w0 ((read ++ t.front) ++ take k rest) h2 s1 w1
      whole_line s0 w0 read before =
          rw held (line_goes_on Replies s0 s1 w0 w1 h1 (read ++ t.front) (t.continues s0 w0 read before) (take k rest) (no_feed_before rest k found))

      split_is : chunk ≡ (t.front ++ (take k rest ++ 10 ∷ [])) ++ drop (k + 1) rest
      split_is = chunk_is chunk t.front rest (take k rest) (drop (k + 1) rest) t.split (split_at_feed rest k found)

      pub line_taken : {E : Type 0} (h3 : Option (List ℕ)) → h3 ≡ Some []
          → AnswersLine {S = S} {E = E} Replies (asked_held h2) s1 s2 w1 w2 (Ok false)
          → IsTakenTo Replies h s w chunk (take (length rest - (k + 1)) (drop (k + 1) rest)) h3 s2 w2
      line_taken h3 cleared a = record {
        front = t.front ++ (take k rest ++ 10 ∷ []);
        split = split_is ∙ ap (λ r. (t.front ++ (take k rest ++ 10 ∷ [])) ++ r) (sym (rest_whole (k + 1) rest));
        continues = λ s0 w0 read before. rw cleared
            (subst (λ r. Transcript Replies s0 w0 r (Some []) s2 w2) (parted read t.front (take k rest) (10 ∷ []))
            (line_answered Replies s0 s1 w0 w1 h2 _ (whole_line s0 w0 read before) s2 w2 a.reply a.is_reply (sym a.quits) a.sent));
      }

      pub quit_taken : {E : Type 0} → AnswersLine {S = S} {E = E} Replies (asked_held h2) s1 s2 w1 w2 (Ok true)
          → Quits Replies h s w chunk s2 w2
      quit_taken a s0 w0 read before =
          subst (λ r. HasQuit Replies s0 w0 r s2 w2) (read_is read chunk t.front (take k rest) (drop (k + 1) rest) split_is)
          (quit_more Replies s0 s2 w0 w2 _ (drop (k + 1) rest)
          (line_quits Replies s0 s1 w0 w1 h2 _ (whole_line s0 w0 read before) s2 w2 a.reply a.is_reply (sym a.quits) a.sent))

      pub cut_taken : {E : Type 0} (x : E) → AnswersLine {S = S} {E = E} Replies (asked_held h2) s1 s2 w1 w2 (Err x)
          → IsCutOff Replies h s w chunk s2 w2
      cut_taken x a s0 w0 read before =
          subst (λ r. IsCut Replies s0 w0 r s2 w2) (read_is read chunk t.front (take k rest) (drop (k + 1) rest) split_is)
          (cut_more Replies s0 s2 w0 w2 _ (drop (k + 1) rest)
          (line_cut Replies s0 s1 w0 w1 h2 _ (whole_line s0 w0 read before) s2 w2 a.reply a.is_reply a.sent))

  -- a call that failed with the call that it made
  pub answers_cut : {E : Type 0} (h : Option (List ℕ)) (s : S) (w : Option (List ℕ)) (chunk : List ℕ)
      (result : Result Bool E) (P : E → Type 0) (h' : Option (List ℕ)) (s' : S) (w' : Option (List ℕ)) → IsErrAnd result P
      → IsCutOff Replies h s w chunk s' w' → AnswersLines Replies h s w chunk result h' s' w'
  answers_cut h s w chunk (Ok q) P h' s' w' err cut = absurd err
  answers_cut h s w chunk (Err e) P h' s' w' err cut = cut
