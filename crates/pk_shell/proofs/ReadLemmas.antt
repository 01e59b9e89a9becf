-- What a read does to what was read and done so far.
use Rattle.std.proofs.Common.{◌≡◌, ℕ, ◌+◌, ◌*◌, ◌<◌, ◌≤◌, ◌^◌, true, false, Option, Some, None, List, [], ◌++◌, length, take, refl, sym, ap, ◌∙◌, subst, append_assoc, length-append, arith, Ok, Err}
use Rattle.std.proofs.lemmas.Grind.{common_steps}
use Rattle.std.proofs.lemmas.List.{append-nil}
use Rattle.std.specs.Io.KnownBytes.{Consumes, Keeps, IsAtEnd}
use Rattle.pk_shell.specs.Asked.{Asked, asked_held, is_blank}
use Rattle.pk_shell.specs.Transcript.{AnswersLine, Continues, Quits, IsCutOff}
use Rattle.pk_shell.specs.Script.{Served, CutShort, Broken, Overlong, TakesAtMost}
use Rattle.pk_shell.specs.Progress.{Progress}
use Rattle.pk_shell.specs.declared.ending.Ended.TheVariants.{Quit, InputEnd}
use Rattle.pk_shell.proofs.Transcripts.{begun, served_quit, served_end, served_last, cut_short, cut_last, broken, overlong}

consumes_more : (r0 r r' : Option (List ℕ)) (a b : List ℕ) → Consumes r0 r a → Consumes r r' b
    → Consumes r0 r' (a ++ b)
consumes_more None r r' a b h k = tt
consumes_more (Some xs) None r' a b h k = absurd h
consumes_more (Some xs) (Some ys) None a b h k = absurd k
consumes_more (Some xs) (Some ys) (Some zs) a b h k = h ∙ ap (λ t. a ++ t) k ∙ sym (append_assoc a b zs)

consumes_kept : (r0 r r' : Option (List ℕ)) (a : List ℕ) → Consumes r0 r a → Keeps r r' → Consumes r0 r' a
consumes_kept None r r' a h k = tt
consumes_kept (Some xs) None r' a h k = absurd h
consumes_kept (Some xs) (Some ys) None a h k = absurd k
consumes_kept (Some xs) (Some ys) (Some zs) a h k = h ∙ ap (λ t. a ++ t) (sym k)

consumes_none : (r0 r r' : Option (List ℕ)) (a : List ℕ) → Consumes r0 r a → Consumes r r' [] → Consumes r0 r' a
consumes_none r0 r r' a h k = subst (λ t. Consumes r0 r' t) (append-nil a) (consumes_more r0 r r' a [] h k)

consumes_start : (r : Option (List ℕ)) → Consumes r r []
consumes_start None = tt
consumes_start (Some xs) = refl

-- one read more, of a byte at least
reads_more : (reads : ℕ) (read chunk : List ℕ) → reads ≤ length read → 0 < length chunk
    → reads + 1 ≤ length (read ++ chunk)
reads_more reads read chunk many some =
    let k : length (read ++ chunk) ≡ length read + length chunk = length-append read chunk in
    rw k (omega (arith, many, some))

-- the bytes that a read gave
pub came : (r r' : Option (List ℕ)) (n : ℕ) (buffer chunk : List ℕ) → Consumes r r' (take n buffer)
    → chunk ≡ take n buffer → Consumes r r' chunk
came r r' n buffer chunk c e = rw e c

pub some_came : (n : ℕ) (buffer chunk : List ℕ) → n ≤ length buffer → (n ≡ 0 → ⊥) → chunk ≡ take n buffer
    → 0 < length chunk
some_came n buffer chunk within not e = rw e (grind (arith, common_steps, within, not))

-- a read that gave nothing
pub read_end : (r r' : Option (List ℕ)) (n : ℕ) (buffer : List ℕ) → n ≡ 0
    → Consumes r r' (take n buffer) × (n ≡ 0 → 0 < length buffer → IsAtEnd r') → 0 < length buffer
    → Consumes r r' [] × IsAtEnd r'
read_end r r' n buffer z p room = (rw z at p.0, p.1 z room)

reads_fewer : (reads : ℕ) (read chunk : List ℕ) → length read ≤ 16384 * reads → length chunk ≤ 16384
    → length (read ++ chunk) ≤ 16384 * (reads + 1)
reads_fewer reads read chunk few less =
    let k : length (read ++ chunk) ≡ length read + length chunk = length-append read chunk in
    rw k (omega (arith, few, less))

pub few_came : (n : ℕ) (buffer chunk : List ℕ) → length buffer ≡ 16384 → chunk ≡ take n buffer → length chunk ≤ 16384
few_came n buffer chunk long e = rw e (grind (arith, common_steps, long))

-- the same of what a read that consumed it put there
pub few_read : (r r' : Option (List ℕ)) (n : ℕ) (buffer chunk : List ℕ) → Consumes r r' (take n buffer)
    → length buffer ≡ 16384 → chunk ≡ take n buffer → length chunk ≤ 16384
few_read r r' n buffer chunk k = few_came n buffer chunk

-- no more is taken than the reads gave
took : (most : ℕ) (r0 r r' : Option (List ℕ)) (read chunk : List ℕ) → Consumes r0 r read → Consumes r r' chunk
    → length read + length chunk ≤ most → TakesAtMost most r0 r'
took most None r r' read chunk h k few = tt
took most (Some xs) None r' read chunk h k few = absurd h
took most (Some xs) (Some ys) None read chunk h k few = absurd k
took most (Some xs) (Some ys) (Some zs) read chunk h k few =
    omega (arith, few, ap length h ∙ length-append read ys, ap length k ∙ length-append chunk zs)

pub consumes_kept_none : (r r' : Option (List ℕ)) → Keeps r r' → Consumes r r' []
consumes_kept_none None r' k = tt
consumes_kept_none (Some xs) None k = absurd k
consumes_kept_none (Some xs) (Some ys) k = sym k

pub takes_none : (most : ℕ) (r : Option (List ℕ)) → TakesAtMost most r r
takes_none most None = tt
takes_none most (Some xs) = omega arith

module _ {S : Type 0} (Replies : S → Asked → List ℕ → S → Type 0) where
  pub started : (s : S) (r w h : Option (List ℕ)) → h ≡ Some [] → Progress Replies s r r w 0 h s w
  started s r w h e = rw e (record {
    read = [];
    consumed = consumes_start r;
    many = omega arith;
    few = omega arith;
    transcript = begun Replies s w;
  })

  -- no read more
  pub all_taken : (s0 s : S) (r0 r w0 w h : Option (List ℕ)) (reads : ℕ) → Progress Replies s0 r0 r w0 reads h s w
      → reads ≤ 2 ^ 40 → TakesAtMost (2 ^ 54) r0 r
  all_taken s0 s r0 r w0 w h reads p k =
      took (2 ^ 54) r0 r r p.read [] p.consumed (consumes_start r) (omega (arith, p.few, k))

  pub too_many : (s0 s : S) (r0 r w0 w h : Option (List ℕ)) (reads : ℕ) → Progress Replies s0 r0 r w0 reads h s w
      → 2 ^ 40 ≤ reads → Overlong Replies s0 r0 r w0 w s
  too_many s0 s r0 r w0 w h reads p k =
      overlong Replies s0 s w0 w h p.read p.transcript r0 r p.consumed (omega (arith, k, p.many))

  module _ (s0 s : S) (r0 r r' w0 w h : Option (List ℕ)) (reads : ℕ) (p : Progress Replies s0 r0 r w0 reads h s w) where
    -- a read that gave bytes
    module _ (chunk : List ℕ) (came : Consumes r r' chunk) (s' : S) (w' : Option (List ℕ)) where
      read_all : Consumes r0 r' (p.read ++ chunk)
      read_all = consumes_more r0 r r' p.read chunk p.consumed came

      pub goes_on : (h' : Option (List ℕ)) → 0 < length chunk → length chunk ≤ 16384 → Continues Replies h s w chunk h' s' w'
          → Progress Replies s0 r0 r' w0 (reads + 1) h' s' w'
      goes_on h' some less k = record {
        read = p.read ++ chunk;
        consumed = read_all;
        many = reads_more reads p.read chunk p.many some;
        few = reads_fewer reads p.read chunk p.few less;
        transcript = k s0 w0 p.read p.transcript;
      }

      pub quits : Quits Replies h s w chunk s' w' → Served Replies s0 r0 r' w0 w' Quit s'
      quits k = served_quit Replies s0 s' r0 r' w0 w' (p.read ++ chunk) read_all (k s0 w0 p.read p.transcript)

      pub is_cut : IsCutOff Replies h s w chunk s' w' → CutShort Replies s0 r0 r' w0 w' s'
      is_cut k = cut_short Replies s0 s' r0 r' w0 w' (p.read ++ chunk) read_all (k s0 w0 p.read p.transcript)

    -- a read that was one of 2^40 at most
    pub takes : (chunk : List ℕ) → Consumes r r' chunk → length chunk ≤ 16384 → reads < 2 ^ 40 → TakesAtMost (2 ^ 54) r0 r'
    takes chunk came less more = took (2 ^ 54) r0 r r' p.read chunk p.consumed came (omega (arith, p.few, less, more))

    -- a read that failed
    pub fails : Keeps r r' → Broken Replies s0 r0 r' w0 w s
    fails k = broken Replies s0 s w0 w h p.read p.transcript r0 r' (consumes_kept r0 r r' p.read p.consumed k)

    -- a read that gave nothing
    module _ (none : Consumes r r' []) (at_end : IsAtEnd r') where
      pub ends : is_blank h ≡ true → Served Replies s0 r0 r' w0 w InputEnd s
      ends k = served_end Replies s0 s w0 w h p.read p.transcript r0 r' (consumes_none r0 r r' p.read p.consumed none) at_end k

      module _ {E : Type 0} (s' : S) (w' : Option (List ℕ)) (begun : is_blank h ≡ false) where
        pub last_quits : AnswersLine {S = S} {E = E} Replies (asked_held h) s s' w w' (Ok true)
            → Served Replies s0 r0 r' w0 w' Quit s'
        last_quits a =
            served_last Replies s0 s w0 w h p.read p.transcript s' w' a.reply a.is_reply r0 r' Quit
            (consumes_none r0 r r' p.read p.consumed none) at_end begun (rw (sym a.quits) refl) a.sent

        pub last_ends : AnswersLine {S = S} {E = E} Replies (asked_held h) s s' w w' (Ok false)
            → Served Replies s0 r0 r' w0 w' InputEnd s'
        last_ends a =
            served_last Replies s0 s w0 w h p.read p.transcript s' w' a.reply a.is_reply r0 r' InputEnd
            (consumes_none r0 r r' p.read p.consumed none) at_end begun (rw (sym a.quits) refl) a.sent

        pub last_cut : (x : E) → AnswersLine {S = S} {E = E} Replies (asked_held h) s s' w w' (Err x)
            → CutShort Replies s0 r0 r' w0 w' s'
        last_cut x a =
            cut_last Replies s0 s w0 w h p.read p.transcript s' w' a.reply a.is_reply r0 r'
            (consumes_none r0 r r' p.read p.consumed none) begun a.sent
