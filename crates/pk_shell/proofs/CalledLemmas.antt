-- A session's lines as calls of its store.
use Rattle.std.proofs.Common.{◌≡◌, ⊎_elim, ◌∙◌, ℕ, Bool, true, false, List, [], ◌∷◌, ◌++◌, inl, inr, refl, sym, subst, Option, Result, Ok, Err}
use Rattle.std.specs.Prelude.{MatchBool}
use Rattle.pk_disk.specs.declared.disk.Disk.{Ghosts}
use Rattle.pk_disk.specs.Disk.{IsImage}
use Rattle.pk_model.specs.declared.commands.Refusal.{Refusal}
use Rattle.pk_model.specs.Steps.{Request, Answer, find}
use Rattle.pk_shell.specs.Asked.{Asked, asked, does, is_quit, queries, quits, refuses}
use Rattle.pk_shell.specs.Called.{CallStep, EndsByCalls}
use Rattle.pk_shell.specs.Script.{Broken, Ends, IsReply, Script}
use Rattle.pk_shell.specs.StoreStep.{StoreStep}
use Rattle.pk_shell.specs.declared.ending.Ended.{Ended}
use Rattle.pk_shell.specs.declared.ending.Ended.TheVariants.{Quit}
use Rattle.pk_shell.specs.declared.ending.ShellFault.{ShellFault}
use Rattle.pk_shell.specs.declared.ending.ShellFault.TheVariants.{Input, Output, TooManyReads, Memory}
use Rattle.pk_store.specs.Calls.{AreCalls, Call, store_after}
use Rattle.pk_store.specs.View.{StoreView}
use Rattle.pk_store.proofs.CallLemmas.{leave_prefixes}

module _ {D : Type 0} (d : Ghosts D) where
  more_calls : (old : StoreView D) (calls : List (Call D)) (request : Request) (reply : Result Answer Refusal) (store : StoreView D) → AreCalls d old calls → StoreStep d (store_after old calls) request reply store
      → AreCalls d old (calls ++ record { request = request; reply = reply; store = store } ∷ [])
  more_calls old [] request reply store are step = (step, tt)
  more_calls old (call ∷ calls) request reply store are step = (are.0, more_calls call.store calls request reply store are.1 step)

  last_of : (old : StoreView D) (calls : List (Call D)) (call : Call D) → store_after old (calls ++ call ∷ []) ≡ call.store
  last_of old [] call = refl
  last_of old (first ∷ calls) call = last_of first.store calls call

  module _ (start : StoreView D) where
    -- the calls that lead to a store, of which this holds
    record Leads (new : StoreView D) (P : List (Call D) → Type 0) : Type 0 where
      pub calls : List (Call D)
      pub are : AreCalls d start calls
      pub last : store_after start calls ≡ new
      pub holds : P calls

    stays : (calls : List (Call D)) (old new : StoreView D) (P : List (Call D) → Type 0) → AreCalls d start calls → store_after start calls ≡ old → new ≡ old → P calls → Leads new P
    stays calls old new P are e same p = record { calls = calls; are = are; last = e ∙ sym same; holds = p }

    one_call : (calls : List (Call D)) (old new : StoreView D) (request : Request) (reply : Result Answer Refusal) → AreCalls d start calls → store_after start calls ≡ old → StoreStep d old request reply new
        → Leads new (CallStep d start calls request reply)
    one_call calls old new request reply are e step =
        let now : StoreStep d (store_after start calls) request reply new = subst (λ (s : StoreView D). StoreStep d s request reply new) (sym e) step in
        record {
          calls = calls ++ record { request = request; reply = reply; store = new } ∷ [];
          are = more_calls start calls request reply new are now;
          last = last_of start calls (record { request = request; reply = reply; store = new });
          holds = (new, now, refl);
        }

    leads_more : (new : StoreView D) (P Q : List (Call D) → Type 0) → ((calls : List (Call D)) → P calls → Q calls) → Leads new P → Leads new Q
    leads_more new P Q f l = record { calls = l.calls; are = l.are; last = l.last; holds = f l.calls l.holds }

    one_line : (calls : List (Call D)) (old new : StoreView D) (what : Asked) (reply : List ℕ) → AreCalls d start calls → store_after start calls ≡ old → IsReply (StoreStep d) old what reply new
        → Leads new (IsReply (CallStep d start) calls what reply)
    one_line calls old new (refuses why) reply are e is = stays calls old new (IsReply (CallStep d start) calls (refuses why) reply) are e is.1 (is.0, refl)
    one_line calls old new quits reply are e is = stays calls old new (IsReply (CallStep d start) calls quits reply) are e is.1 (is.0, refl)
    one_line calls old new (does request) reply are e is =
        leads_more new (CallStep d start calls request is.0) (IsReply (CallStep d start) calls (does request) reply) (λ more step. (is.0, step, is.2)) (one_call calls old new request is.0 are e is.1)
    one_line calls old new (queries text) reply are e is =
        ⊎_elim
        (λ asks. leads_more new (CallStep d start calls (find asks.0) asks.1) (IsReply (CallStep d start) calls (queries text) reply) (λ more step. inl (asks.0, asks.1, asks.2, step, asks.4)) (one_call calls old new (find asks.0) asks.1 are e asks.3))
        (λ fault. stays calls old new (IsReply (CallStep d start) calls (queries text) reply) are e fault.3 (inr (fault.0, fault.1, fault.2, refl))) is

    rest_of : (b : Bool) (calls : List (Call D)) (mid new : StoreView D) (lines replies : List (List ℕ)) (how : Ended) → AreCalls d start calls → store_after start calls ≡ mid
        → (Script (IsReply (StoreStep d)) mid lines replies new how → Leads new (λ more. Script (IsReply (CallStep d start)) calls lines replies more how))
        → MatchBool b ((replies ≡ []) × (new ≡ mid) × (how ≡ Quit)) (Script (IsReply (StoreStep d)) mid lines replies new how)
        → Leads new (λ more. MatchBool b ((replies ≡ []) × (more ≡ calls) × (how ≡ Quit)) (Script (IsReply (CallStep d start)) calls lines replies more how))
    rest_of true calls mid new lines replies how are e later is = stays calls mid new (λ more. (replies ≡ []) × (more ≡ calls) × (how ≡ Quit)) are e is.1 (is.0, refl, is.2)
    rest_of false calls mid new lines replies how are e later is = later is

    script_calls : (calls : List (Call D)) (old new : StoreView D) (lines replies : List (List ℕ)) (how : Ended) → AreCalls d start calls → store_after start calls ≡ old → Script (IsReply (StoreStep d)) old lines replies new how
        → Leads new (λ more. Script (IsReply (CallStep d start)) calls lines replies more how)
    script_calls calls old new [] [] how are e is = stays calls old new (λ more. (more ≡ calls) × (how ≡ _)) are e is.0 (refl, is.1)
    script_calls calls old new (line ∷ lines) (reply ∷ replies) how are e is =
        let one = one_line calls old is.0 (asked line) reply are e is.1 in
        leads_more new (λ more. MatchBool (is_quit (asked line)) ((replies ≡ []) × (more ≡ one.calls) × (how ≡ Quit)) (Script (IsReply (CallStep d start)) one.calls lines replies more how))
        (λ more. Script (IsReply (CallStep d start)) calls (line ∷ lines) (reply ∷ replies) more how) (λ more rest. (one.calls, one.holds, rest))
        (rest_of (is_quit (asked line)) one.calls is.0 new lines replies how one.are one.last (λ later. script_calls one.calls is.0 new lines replies how one.are one.last later) is.2)
    script_calls calls old new [] (reply ∷ replies) how are e is = absurd is
    script_calls calls old new (line ∷ lines) [] how are e is = absurd is

    from_start : (new : StoreView D) (lines replies : List (List ℕ)) (how : Ended) → Script (IsReply (StoreStep d)) start lines replies new how → Leads new (λ more. Script (IsReply (CallStep d start)) [] lines replies more how)
    from_start new lines replies how is = script_calls [] start new lines replies how tt refl is

    broken_calls : (r r' w w' : Option (List ℕ)) (new : StoreView D) (b : Broken (IsReply (StoreStep d)) start r r' w w' new) → Leads new (λ more. (c : Broken (IsReply (CallStep d start)) [] r r' w w' more) × (c.lines ≡ b.lines) × (c.rest ≡ b.rest))
    broken_calls r r' w w' new b =
        leads_more new (λ more. Script (IsReply (CallStep d start)) [] b.lines b.replies more _) (λ more. (c : Broken (IsReply (CallStep d start)) [] r r' w w' more) × (c.lines ≡ b.lines) × (c.rest ≡ b.rest))
        (λ more script. (record { lines = b.lines; rest = b.rest; no_feed = b.no_feed; consumed = b.consumed; replies = b.replies; script = script; written = b.written }, refl, refl))
        (from_start new b.lines b.replies _ b.script)

    ends_calls : (r r' w w' : Option (List ℕ)) (result : Result Ended ShellFault) (new : StoreView D) → Ends (StoreStep d) start r r' w w' result new → Leads new (Ends (CallStep d start) [] r r' w w' result)
    ends_calls r r' w w' (Ok how) new s =
        leads_more new (λ more. Script (IsReply (CallStep d start)) [] _ s.replies more how) (Ends (CallStep d start) [] r r' w w' (Ok how))
        (λ more script. record { read = s.read; consumed = s.consumed; at_end = s.at_end; replies = s.replies; script = script; written = s.written })
        (from_start new _ s.replies how s.script)
    ends_calls r r' w w' (Err Input) new s =
        leads_more new _ (Ends (CallStep d start) [] r r' w w' (Err Input)) (λ more b. b.0) (broken_calls r r' w w' new s)
    ends_calls r r' w w' (Err TooManyReads) new s =
        leads_more new _ (Ends (CallStep d start) [] r r' w w' (Err TooManyReads)) (λ more b. record { answered = b.0; many = rw (b.1, b.2) s.many }) (broken_calls r r' w w' new s.answered)
    ends_calls r r' w w' (Err Output) new s =
        leads_more new (λ more. Script (IsReply (CallStep d start)) [] s.lines (s.replies ++ s.last ∷ []) more s.how) (Ends (CallStep d start) [] r r' w w' (Err Output))
        (λ more script. record { read = s.read; consumed = s.consumed; lines = s.lines; others = s.others; executed = s.executed; how = s.how; replies = s.replies; last = s.last; script = script; part = s.part; missing = s.missing; some_missing = s.some_missing; cut = s.cut; written = s.written })
        (from_start new s.lines (s.replies ++ s.last ∷ []) s.how s.script)
    ends_calls r r' w w' (Err Memory) new s =
        stays [] start new (Ends (CallStep d start) [] r r' w w' (Err Memory)) tt refl s.state (record { reader = s.reader; writer = s.writer; state = refl })

  pub by_calls : (d.honest → (x : D) (image : List ℕ) → d.images_since x (d.moment x) image → IsImage (d.content x) (d.is_open x) image)
      → (old : StoreView D) (r r' w w' : Option (List ℕ)) (result : Result Ended ShellFault) (new : StoreView D) → Ends (StoreStep d) old r r' w w' result new → EndsByCalls d old r r' w w' result new
  by_calls only_now old r r' w w' result new ends =
      let l = ends_calls old r r' w w' result new ends in
      record { calls = l.calls; are = l.are; last = l.last; ends = l.holds; leave = λ h state m. leave_prefixes d h (only_now h) old state l.calls m l.are }
