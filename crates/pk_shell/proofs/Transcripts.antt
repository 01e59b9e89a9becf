-- How a transcript goes on: more bytes of a line, a line's end, and the ends of a session.
use Rattle.std.proofs.Common.{◌≡◌, ◌≢◌, ℕ, ◌+◌, ◌<◌, ◌≤◌, ◌^◌, Bool, true, false, cond, nat_lt, Option, Some, None, List, [], ◌∷◌, ◌++◌, length, length-append, refl, sym, ap, ◌∙◌, subst, append_assoc, arith}
use Rattle.std.specs.Prelude.{◌==◌, MatchBool}
use Rattle.std.specs.List.{flat_map, AllByRecursion}
use Rattle.std.specs.Io.KnownBytes.{Appends, Consumes, IsAtEnd}
use Rattle.std.proofs.lemmas.Bool.Decides.{nat_tests}
use Rattle.std.proofs.lemmas.List.{append-nil}
use Rattle.pk_shell.specs.Asked.{Asked, asked, asked_held, held_of, longest_line, is_quit, is_blank}
use Rattle.pk_shell.specs.Lines.{lines_of, with_feed, HasNoFeed, onto_first, last_line}
use Rattle.pk_shell.specs.Script.{Script, spelled, Served, Broken, Overlong, CutShort}
use Rattle.pk_shell.specs.Sending.{SentPart}
use Rattle.pk_shell.specs.Transcript.{Transcript, HasQuit, IsCut, held_after}
use Rattle.pk_shell.specs.declared.ending.Ended.{Ended}
use Rattle.pk_shell.specs.declared.ending.Ended.TheVariants.{Quit, InputEnd}
use Rattle.pk_shell.proofs.Parts.{appends_none, appends_then}

-- LINES OF A TEXT
not_ten : (b : ℕ) → b ≢ 10 → (b == 10) ≡ false
not_ten b h = grind (arith, nat_tests)

-- a whole line in front of more bytes
line_front : (line more : List ℕ) → HasNoFeed line → lines_of ((line ++ 10 ∷ []) ++ more) ≡ line ∷ lines_of more
line_front [] more h = refl
line_front (b ∷ bs) more h = rw (not_ten b h.0) (ap (onto_first b) (line_front bs more h.1))

lines_whole : (lines : List (List ℕ)) (more : List ℕ) → AllByRecursion HasNoFeed lines
    → lines_of (flat_map with_feed lines ++ more) ≡ lines ++ lines_of more
lines_whole [] more h = refl
lines_whole (line ∷ lines) more h =
    ap lines_of (append_assoc (with_feed line) (flat_map with_feed lines) more)
    ∙ line_front line (flat_map with_feed lines ++ more) h.0
    ∙ ap (λ ls. line ∷ ls) (lines_whole lines more h.1)

-- bytes without a line feed
lines_rest : (rest : List ℕ) → HasNoFeed rest → lines_of rest ≡ last_line rest
lines_rest [] h = refl
lines_rest (b ∷ []) h = rw (not_ten b h.0) refl
lines_rest (b ∷ c ∷ bs) h = rw (not_ten b h.0) (ap (onto_first b) (lines_rest (c ∷ bs) h.1))

no_feed_more : (rest bytes : List ℕ) → HasNoFeed rest → HasNoFeed bytes → HasNoFeed (rest ++ bytes)
no_feed_more [] bytes h k = k
no_feed_more (x ∷ xs) bytes h k = (h.0, no_feed_more xs bytes h.1 k)

no_feed_line : (lines : List (List ℕ)) (rest : List ℕ) → AllByRecursion HasNoFeed lines → HasNoFeed rest
    → AllByRecursion HasNoFeed (lines ++ rest ∷ [])
no_feed_line [] rest h k = (k, tt)
no_feed_line (x ∷ xs) rest h k = (h.0, no_feed_line xs rest h.1 k)

flat_one : (lines : List (List ℕ)) (rest : List ℕ)
    → flat_map with_feed (lines ++ rest ∷ []) ≡ flat_map with_feed lines ++ (rest ++ 10 ∷ [])
flat_one [] rest = append-nil _
flat_one (x ∷ xs) rest =
    ap (λ t. with_feed x ++ t) (flat_one xs rest)
    ∙ sym (append_assoc (with_feed x) (flat_map with_feed xs) (rest ++ 10 ∷ []))

-- WHAT IS HELD OF A LINE, and more bytes of it
held_long : (rest bytes : List ℕ) → longest_line < length rest → held_of (rest ++ bytes) ≡ None
held_long rest bytes h =
    let k : length (rest ++ bytes) ≡ length rest + length bytes = length-append rest bytes in
    let j : nat_lt longest_line (length (rest ++ bytes)) ≡ true = rw k (grind (arith, nat_tests)) in
    rw j refl

held_by : (b : Bool) (rest bytes : List ℕ) → nat_lt longest_line (length rest) ≡ b
    → held_after (cond b None (Some rest)) bytes ≡ held_of (rest ++ bytes)
held_by true rest bytes e = sym (held_long rest bytes (grind (arith, nat_tests)))
held_by false rest bytes e = refl

held_more : (rest bytes : List ℕ) → held_after (held_of rest) bytes ≡ held_of (rest ++ bytes)
held_more rest bytes = held_by (nat_lt longest_line (length rest)) rest bytes refl

blank_rest : (rest : List ℕ) → is_blank (held_of rest) ≡ true → rest ≡ []
blank_rest [] e = refl
blank_rest (b ∷ bs) e = absurd (not_blank (nat_lt longest_line (length (b ∷ bs))) b bs e)
  where
    not_blank : (x : Bool) (b : ℕ) (bs : List ℕ) → is_blank (cond x None (Some (b ∷ bs))) ≡ true → ⊥
    not_blank true b bs e = cc
    not_blank false b bs e = cc

last_of : (rest : List ℕ) → is_blank (held_of rest) ≡ false → last_line rest ≡ rest ∷ []
last_of [] e = cc
last_of (b ∷ bs) e = refl

-- HOW A SCRIPT ENDS
match_map : (b : Bool) (P P' Q Q' : Type 0) → (P → P') → (Q → Q') → MatchBool b P Q → MatchBool b P' Q'
match_map true P P' Q Q' f g h = f h
match_map false P P' Q Q' f g h = g h

end_not_quit : InputEnd ≡ Quit → ⊥
end_not_quit e = cc

quit_not_end : Quit ≡ InputEnd → ⊥
quit_not_end e = cc

ends_at : (what : Asked) → is_quit what ≡ false → MatchBool (is_quit what) (InputEnd ≡ Quit) (InputEnd ≡ InputEnd)
ends_at what e = rw e refl

quits_at : (what : Asked) → is_quit what ≡ true → MatchBool (is_quit what) (Quit ≡ Quit) (Quit ≡ InputEnd)
quits_at what e = rw e refl

ended_by : Bool → Ended
ended_by true = Quit
ended_by false = InputEnd

ends_by : (b : Bool) → MatchBool b (ended_by b ≡ Quit) (ended_by b ≡ InputEnd)
unfolding ended_by
ends_by true = refl
ends_by false = refl

last_step : {S : Type 0} (b : Bool) (s' : S) (how : Ended) → MatchBool b (how ≡ Quit) (how ≡ InputEnd)
    → MatchBool b ((◌≡◌ {A = List (List ℕ)} [] []) × (s' ≡ s') × (how ≡ Quit)) ((s' ≡ s') × (how ≡ InputEnd))
last_step true s' how e = (refl, refl, e)
last_step false s' how e = (refl, e)

module _ {S : Type 0} (Replies : S → Asked → List ℕ → S → Type 0) where
  -- SCRIPTS. A line more.
  script_more : (s0 s s' : S) (lines replies : List (List ℕ)) (line reply : List ℕ) (how : Ended)
      → Script Replies s0 lines replies s InputEnd → Replies s (asked line) reply s'
      → MatchBool (is_quit (asked line)) (how ≡ Quit) (how ≡ InputEnd)
      → Script Replies s0 (lines ++ line ∷ []) (replies ++ reply ∷ []) s' how
  script_more s0 s s' [] [] line reply how run said ends =
      (s', subst (λ x. Replies x (asked line) reply s') run.0 said, last_step (is_quit (asked line)) s' how ends)
  script_more s0 s s' (l ∷ ls) (r ∷ rs) line reply how run said ends = (
    run.0,
    run.1,
    match_map (is_quit (asked l)) _ _ _ _ (λ h. absurd (end_not_quit h.2))
        (λ q. script_more run.0 s s' ls rs line reply how q said ends) run.2,
  )
  script_more s0 s s' [] (r ∷ rs) line reply how run said ends = absurd run
  script_more s0 s s' (l ∷ ls) [] line reply how run said ends = absurd run

  -- after a quit other lines change nothing
  script_quit : (s0 s' : S) (lines others replies : List (List ℕ)) → Script Replies s0 lines replies s' Quit
      → Script Replies s0 (lines ++ others) replies s' Quit
  script_quit s0 s' [] others [] run = absurd (quit_not_end run.1)
  script_quit s0 s' (l ∷ ls) others (r ∷ rs) run = (
    run.0,
    run.1,
    match_map (is_quit (asked l)) _ _ _ _ (λ h. h) (λ q. script_quit run.0 s' ls others rs q) run.2,
  )
  script_quit s0 s' [] others (r ∷ rs) run = absurd run
  script_quit s0 s' (l ∷ ls) others [] run = absurd run

  -- TRANSCRIPTS. The start.
  pub begun : (s : S) (w : Option (List ℕ)) → Transcript Replies s w [] (Some []) s w
  begun s w = record {
    lines = [];
    rest = [];
    replies = [];
    read_is = refl;
    no_feed = tt;
    no_feed_rest = tt;
    held_is = refl;
    script = (refl, refl);
    written = appends_none w;
  }

  -- the steps from what was read, with what is held of the line that is being read
  module _ (s0 s : S) (w0 w h : Option (List ℕ)) (read : List ℕ) (t : Transcript Replies s0 w0 read h s w) where
    -- more bytes of the line
    pub line_goes_on : (bytes : List ℕ) → HasNoFeed bytes
        → Transcript Replies s0 w0 (read ++ bytes) (held_after h bytes) s w
    line_goes_on bytes k = record {
      lines = t.lines;
      rest = t.rest ++ bytes;
      replies = t.replies;
      read_is = ap (λ r. r ++ bytes) t.read_is ∙ append_assoc (flat_map with_feed t.lines) t.rest bytes;
      no_feed = t.no_feed;
      no_feed_rest = no_feed_more t.rest bytes t.no_feed_rest k;
      held_is = ap (λ x. held_after x bytes) t.held_is ∙ held_more t.rest bytes;
      script = t.script;
      written = t.written;
    }

    line_read : read ++ 10 ∷ [] ≡ flat_map with_feed (t.lines ++ t.rest ∷ []) ++ []
    line_read =
        ap (λ r. r ++ 10 ∷ []) t.read_is ∙ append_assoc (flat_map with_feed t.lines) t.rest (10 ∷ [])
        ∙ sym (flat_one t.lines t.rest) ∙ sym (append-nil _)

    -- all that was read, where the input ends with a line begun
    all_lines : is_blank h ≡ false → lines_of read ≡ t.lines ++ t.rest ∷ []
    all_lines k =
        ap lines_of t.read_is ∙ lines_whole t.lines t.rest t.no_feed
        ∙ ap (λ x. t.lines ++ x)
        (lines_rest t.rest t.no_feed_rest ∙ last_of t.rest (subst (λ x. is_blank x ≡ false) t.held_is k))

    -- the line's reply
    module _ (s' : S) (w' : Option (List ℕ)) (reply : List ℕ) (said : Replies s (asked_held h) reply s') where
      script_then : (how : Ended) → MatchBool (is_quit (asked_held h)) (how ≡ Quit) (how ≡ InputEnd)
          → Script Replies s0 (t.lines ++ t.rest ∷ []) (t.replies ++ reply ∷ []) s' how
      script_then how ends = script_more s0 s s' t.lines t.replies t.rest reply how t.script
          (subst (λ x. Replies s (asked_held x) reply s') t.held_is said)
          (subst (λ x. MatchBool (is_quit (asked_held x)) (how ≡ Quit) (how ≡ InputEnd)) t.held_is ends)

      written_then : Appends w w' (with_feed reply) → Appends w0 w' (spelled (t.replies ++ reply ∷ []))
      written_then sent = rw (flat_one t.replies reply) (appends_then w0 w w' _ _ t.written sent)

      pub line_answered : is_quit (asked_held h) ≡ false → Appends w w' (with_feed reply)
          → Transcript Replies s0 w0 (read ++ 10 ∷ []) (Some []) s' w'
      line_answered q sent = record {
        lines = t.lines ++ t.rest ∷ [];
        rest = [];
        replies = t.replies ++ reply ∷ [];
        read_is = line_read;
        no_feed = no_feed_line t.lines t.rest t.no_feed t.no_feed_rest;
        no_feed_rest = tt;
        held_is = refl;
        script = script_then InputEnd (ends_at _ q);
        written = written_then sent;
      }

      pub line_quits : is_quit (asked_held h) ≡ true → Appends w w' (with_feed reply)
          → HasQuit Replies s0 w0 (read ++ 10 ∷ []) s' w'
      line_quits q sent = record {
        lines = t.lines ++ t.rest ∷ [];
        more = [];
        replies = t.replies ++ reply ∷ [];
        read_is = line_read;
        no_feed = no_feed_line t.lines t.rest t.no_feed t.no_feed_rest;
        script = script_then Quit (quits_at _ q);
        written = written_then sent;
      }

      pub line_cut : SentPart w w' (with_feed reply) → IsCut Replies s0 w0 (read ++ 10 ∷ []) s' w'
      line_cut sent = record {
        lines = t.lines ++ t.rest ∷ [];
        more = [];
        how = ended_by (is_quit (asked_held h));
        replies = t.replies;
        last = reply;
        part = sent.part;
        missing = sent.missing;
        some_missing = sent.some_missing;
        read_is = line_read;
        no_feed = no_feed_line t.lines t.rest t.no_feed t.no_feed_rest;
        script = script_then (ended_by (is_quit (asked_held h))) (ends_by (is_quit (asked_held h)));
        cut = sent.whole;
        written = appends_then w0 w w' _ _ t.written sent.written;
      }

      -- a last line, at the end of the input, which was answered
      pub served_last : (r r' : Option (List ℕ)) (how : Ended) → Consumes r r' read → IsAtEnd r' → is_blank h ≡ false
          → MatchBool (is_quit (asked_held h)) (how ≡ Quit) (how ≡ InputEnd) → Appends w w' (with_feed reply)
          → Served Replies s0 r r' w0 w' how s'
      served_last r r' how c e k ends sent = record {
        read = read;
        consumed = c;
        at_end = λ _. e;
        replies = t.replies ++ reply ∷ [];
        script = rw (all_lines k) (script_then how ends);
        written = written_then sent;
      }

      pub cut_last : (r r' : Option (List ℕ)) → Consumes r r' read → is_blank h ≡ false
          → SentPart w w' (with_feed reply) → CutShort Replies s0 r r' w0 w' s'
      cut_last r r' c k sent = record {
        read = read;
        consumed = c;
        lines = t.lines ++ t.rest ∷ [];
        others = [];
        executed = all_lines k ∙ sym (append-nil _);
        how = ended_by (is_quit (asked_held h));
        replies = t.replies;
        last = reply;
        script = script_then (ended_by (is_quit (asked_held h))) (ends_by (is_quit (asked_held h)));
        part = sent.part;
        missing = sent.missing;
        some_missing = sent.some_missing;
        cut = sent.whole;
        written = appends_then w0 w w' _ _ t.written sent.written;
      }

    -- the end of the input, with no line begun
    pub served_end : (r r' : Option (List ℕ)) → Consumes r r' read → IsAtEnd r' → is_blank h ≡ true
        → Served Replies s0 r r' w0 w InputEnd s
    served_end r r' c e k =
        let none : t.rest ≡ [] = blank_rest t.rest (subst (λ x. is_blank x ≡ true) t.held_is k) in
        let whole : lines_of read ≡ t.lines =
        ap lines_of (t.read_is ∙ ap (λ x. flat_map with_feed t.lines ++ x) none)
        ∙ lines_whole t.lines [] t.no_feed ∙ append-nil _ in
        record {
          read = read;
          consumed = c;
          at_end = λ _. e;
          replies = t.replies;
          script = rw whole t.script;
          written = t.written;
        }

    pub broken : (r r' : Option (List ℕ)) → Consumes r r' read → Broken Replies s0 r r' w0 w s
    broken r r' c = record {
      lines = t.lines;
      rest = t.rest;
      no_feed = (t.no_feed, t.no_feed_rest);
      consumed = subst (λ x. Consumes r r' x) t.read_is c;
      replies = t.replies;
      script = t.script;
      written = t.written;
    }

    pub overlong : (r r' : Option (List ℕ)) → Consumes r r' read → 2 ^ 40 ≤ length read
        → Overlong Replies s0 r r' w0 w s
    unfolding broken
    overlong r r' c many = record {
      answered = broken r r' c;
      many = subst (λ x. 2 ^ 40 ≤ length x) t.read_is many;
    }

  -- bytes behind what decided
  pub quit_more : (s0 s : S) (w0 w : Option (List ℕ)) (read more : List ℕ) → HasQuit Replies s0 w0 read s w
      → HasQuit Replies s0 w0 (read ++ more) s w
  quit_more s0 s w0 w read more t = record {
    lines = t.lines;
    more = t.more ++ more;
    replies = t.replies;
    read_is = ap (λ r. r ++ more) t.read_is ∙ append_assoc (flat_map with_feed t.lines) t.more more;
    no_feed = t.no_feed;
    script = t.script;
    written = t.written;
  }

  pub cut_more : (s0 s : S) (w0 w : Option (List ℕ)) (read more : List ℕ) → IsCut Replies s0 w0 read s w
      → IsCut Replies s0 w0 (read ++ more) s w
  cut_more s0 s w0 w read more t = record {
    lines = t.lines;
    more = t.more ++ more;
    how = t.how;
    replies = t.replies;
    last = t.last;
    part = t.part;
    missing = t.missing;
    some_missing = t.some_missing;
    read_is = ap (λ r. r ++ more) t.read_is ∙ append_assoc (flat_map with_feed t.lines) t.more more;
    no_feed = t.no_feed;
    script = t.script;
    cut = t.cut;
    written = t.written;
  }

  -- THE ENDS that a line made
  pub served_quit : (s0 s : S) (r r' w0 w : Option (List ℕ)) (read : List ℕ) → Consumes r r' read
      → HasQuit Replies s0 w0 read s w → Served Replies s0 r r' w0 w Quit s
  served_quit s0 s r r' w0 w read c t = record {
    read = read;
    consumed = c;
    at_end = λ e. absurd (quit_not_end e);
    replies = t.replies;
    script = rw (ap lines_of t.read_is ∙ lines_whole t.lines t.more t.no_feed)
        (script_quit s0 s t.lines (lines_of t.more) t.replies t.script);
    written = t.written;
  }

  pub cut_short : (s0 s : S) (r r' w0 w : Option (List ℕ)) (read : List ℕ) → Consumes r r' read
      → IsCut Replies s0 w0 read s w → CutShort Replies s0 r r' w0 w s
  cut_short s0 s r r' w0 w read c t = record {
    read = read;
    consumed = c;
    lines = t.lines;
    others = lines_of t.more;
    executed = ap lines_of t.read_is ∙ lines_whole t.lines t.more t.no_feed;
    how = t.how;
    replies = t.replies;
    last = t.last;
    script = t.script;
    part = t.part;
    missing = t.missing;
    some_missing = t.some_missing;
    cut = t.cut;
    written = t.written;
  }
