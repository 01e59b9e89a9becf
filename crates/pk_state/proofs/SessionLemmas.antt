-- A legal step goes over from what a store means to the session that tells it.
use Rattle.std.proofs.Common.{◌≡◌, ◌≤◌, Bool, true, false, Option, Some, None, List, [], ◌∷◌, ◌++◌, take, length, length-append, refl, sym, ap, ◌∙◌, arith, Result, Ok, Err}
use Rattle.std.specs.Prelude.{MatchBool}
use Rattle.std.proofs.lemmas.List.{take-append-le, take_all}
use Rattle.pk_model.specs.Collection.{Collection}
use Rattle.pk_model.specs.Steps.{Request, Answer, add, delete, find, show, commit, merge, tidy, count, after, after_one}
use Rattle.pk_state.specs.Committed.{collection_of}
use Rattle.pk_state.specs.Legal.{State, marked, LegalStep, Accepts, RefusesDue, Fails, FailsOnDisk, due}
use Rattle.pk_state.specs.Session.{Session, Tells, next_session}
use Rattle.pk_model.specs.declared.commands.Refusal.{Refusal}
use Rattle.pk_model.specs.declared.commands.Refusal.TheVariants.{Reopen, TextTooLong, BufferFull, NumbersUsedUp, NoSuchDocument, TooManySegments, SegmentTooLarge, Memory, Full, Damaged, Disk}

-- the collection and what is committed are as they were
pub record Same (old new : State) : Type 0 where
  pub now : new.now ≡ old.now
  pub committed : new.committed ≡ old.committed

pub after-append : (a b : List Request) (c : Collection) → after (a ++ b) c ≡ after b (after a c)
after-append [] b c = refl
after-append (r ∷ rs) b c = after-append rs b (after_one r c)

pub same : (old new : State) → new ≡ old → Same old new
same old new e = record { now = ap (λ s. s.now) e; committed = ap (λ s. s.committed) e }

disk_same : (failed : Bool) (old new : State) (request : Request) → FailsOnDisk failed old request new → Same old new
disk_same true old new request f = record { now = ap (λ s. s.now) f.1; committed = ap (λ s. s.committed) f.1 }
disk_same false old new request f = same old new f

fails_same : (failed : Bool) (old new : State) (request : Request) (why : Refusal) → Fails failed old request why new → Same old new
fails_same failed old new request Memory f = same old new f
fails_same failed old new request Damaged f = same old new f
fails_same failed old new request Disk f = disk_same failed old new request f
fails_same failed old new request SegmentTooLarge f = same old new f.2
fails_same failed old new request (Full need largest) f = same old new f.3
fails_same failed old new request Reopen f = absurd f
fails_same failed old new request TextTooLong f = absurd f
fails_same failed old new request BufferFull f = absurd f
fails_same failed old new request NumbersUsedUp f = absurd f
fails_same failed old new request NoSuchDocument f = absurd f
fails_same failed old new request TooManySegments f = absurd f

due_same : (failed : Bool) (old new : State) (request : Request) (first : Option Refusal) (why : Refusal) → RefusesDue first failed old request why new → Same old new
due_same failed old new request None why f = fails_same failed old new request why f.1
due_same failed old new request (Some NoSuchDocument) why f = same old new f.1
due_same failed old new request (Some Reopen) why f = same old new f.1
due_same failed old new request (Some TextTooLong) why f = same old new f.1
due_same failed old new request (Some BufferFull) why f = same old new f.1
due_same failed old new request (Some NumbersUsedUp) why f = same old new f.1
due_same failed old new request (Some TooManySegments) why f = same old new f.1
due_same failed old new request (Some SegmentTooLarge) why f = same old new f.1
due_same failed old new request (Some Memory) why f = same old new f.1
due_same failed old new request (Some (Full need largest)) why f = same old new f.1
due_same failed old new request (Some Damaged) why f = same old new f.1
due_same failed old new request (Some Disk) why f = same old new f.1

pub refuses_same : (failed b : Bool) (old new : State) (request : Request) (why : Refusal) → MatchBool b ((why ≡ Reopen) × (new ≡ old)) (RefusesDue (due old request) failed old request why new) → Same old new
refuses_same failed true old new request why f = same old new f.1
refuses_same failed false old new request why f = due_same failed old new request (due old request) why f

-- the mark stays
kept_mark : (s : Session) (old new : State) (request : Request) → Tells s old → marked new ≡ marked old → after (take s.mark (s.log ++ request ∷ [])) s.start ≡ marked new
kept_mark s old new request t e = let within : s.mark ≤ length s.log = t.within in ap (λ l. after l s.start) (take-append-le s.mark s.log (request ∷ []) within) ∙ t.marked ∙ sym e

longer : (s : Session) (old : State) (request : Request) → Tells s old → s.mark ≤ length (s.log ++ request ∷ [])
longer s old request t = let within : s.mark ≤ length s.log = t.within in omega (arith, length-append s.log (request ∷ []))

now_next : (s : Session) (old new : State) (request : Request) → Tells s old → new.now ≡ after_one request old.now → after (s.log ++ request ∷ []) s.start ≡ new.now
now_next s old new request t e = after-append s.log (request ∷ []) s.start ∙ ap (after_one request) t.now ∙ sym e

accepted : (s : Session) (old new : State) (request : Request) (answer : Answer) → Tells s old → Accepts old request answer new → Tells (next_session s request (Ok answer)) new
accepted s old new commit answer t a = record { within = omega arith; now = now_next s old new commit t a.now; marked = ap (λ l. after l s.start) (take_all _ (s.log ++ commit ∷ []) (omega arith)) ∙ now_next s old new commit t a.now ∙ sym a.mark }
accepted s old new (add text) answer t a = record { within = longer s old (add text) t; now = now_next s old new (add text) t a.now; marked = kept_mark s old new (add text) t a.mark }
accepted s old new (delete n) answer t a = record { within = longer s old (delete n) t; now = now_next s old new (delete n) t a.now; marked = kept_mark s old new (delete n) t a.mark }
accepted s old new (find query) answer t a = record { within = longer s old (find query) t; now = now_next s old new (find query) t a.now; marked = kept_mark s old new (find query) t a.mark }
accepted s old new (show n) answer t a = record { within = longer s old (show n) t; now = now_next s old new (show n) t a.now; marked = kept_mark s old new (show n) t a.mark }
accepted s old new merge answer t a = record { within = longer s old merge t; now = now_next s old new merge t a.now; marked = kept_mark s old new merge t a.mark }
accepted s old new tidy answer t a = record { within = longer s old tidy t; now = now_next s old new tidy t a.now; marked = kept_mark s old new tidy t a.mark }
accepted s old new count answer t a = record { within = longer s old count t; now = now_next s old new count t a.now; marked = kept_mark s old new count t a.mark }

pub tells_next : (failed : Bool) (s : Session) (old new : State) (request : Request) (reply : Result Answer Refusal) → Tells s old → LegalStep failed old request reply new → Tells (next_session s request reply) new
unfolding LegalStep
tells_next failed s old new request (Ok answer) t step = accepted s old new request answer t step
tells_next failed s old new request (Err why) t step =
    let k = refuses_same failed old.reopen old new request why step in
    record { within = t.within; now = t.now ∙ sym k.now; marked = t.marked ∙ sym (ap collection_of k.committed) }
