-- What was outdated once, and so many times: nothing in force got older by it.
use Rattle.std.proofs.Common.{◌≡◌, ◌≤◌, ◌+◌, inl, inr, ⊎_elim, ℕ, zero, suc, List, Option, Some, None, Result, Ok, Err, refl, sym, subst, arith}
use Rattle.std.specs.Prelude.{IfNone, IsSomeAnd, MatchOption}
use Rattle.std.proofs.Math.Logic.{∥∥₁_elim, ∥∥₁_map}
use Rattle.std.proofs.Props.{props}
use Rattle.pk_manifest.specs.declared.half.Half.TheVariants.{A, B}
use Rattle.pk_manifest.specs.Evolves.{Evolves, in_force}
use Rattle.pk_manifest.proofs.Evolving.{evolves_here, open_below}
use Rattle.pk_model.specs.Steps.{Answer, Request}
use Rattle.pk_model.specs.Views.{reply_of}
use Rattle.pk_model.specs.declared.commands.Refusal.{Refusal}
use Rattle.pk_model.specs.declared.commands.Refusal.TheVariants.{Disk}
use Rattle.pk_model.specs.declared.commands.Reply.{Reply}
use Rattle.pk_reader.specs.Causes.{HasCause, HasReason}
use Rattle.pk_reader.specs.Faults.{lasting_fault, opening_fault}
use Rattle.pk_reader.specs.Outdated.{GivesUp, IsOutdated, OnOutdated, OutdatedTimes, WasOutdated, most_holds, most_openings}
use Rattle.pk_reader.specs.Reading.{ReadStep}
use Rattle.pk_reader.specs.Refused.{IsGone, RefusedOpening}
use Rattle.pk_reader.specs.Replies.{IsAsked}
use Rattle.pk_reader.specs.Unopened.{WasRefused}
use Rattle.pk_reader.specs.Without.{refusal_without}
use Rattle.pk_reader.proofs.ReadLemmas.{older_step}
use Rattle.pk_snapshot.specs.Changed.{SawChange}
use Rattle.pk_snapshot.specs.declared.fault.SnapshotFault.{SnapshotFault}
use Rattle.pk_snapshot.specs.declared.fault.SnapshotFault.TheVariants as shown
use Rattle.pk_snapshot.proofs.SeenLemmas.{other_wider, shut_wider}
use Rattle.pk_store.specs.declared.refused.OpenFault.{OpenFault}
use Rattle.pk_store.specs.declared.refused.OpenFault.TheVariants as opened

-- ONCE: where there is no reply
outdated_why : (asked now marked : List ℕ) (why : SnapshotFault) → refusal_without why ≡ None → RefusedOpening asked now marked why → IsOutdated asked now
outdated_why asked now marked shown.TooSmall none is = absurd (cc)
outdated_why asked now marked shown.NotAStore none is = (marked, inl is)
outdated_why asked now marked shown.Changed none is = (marked, inr is)
outdated_why asked now marked shown.Damaged none is = absurd (cc)
outdated_why asked now marked shown.Memory none is = absurd (cc)
outdated_why asked now marked shown.Disk none is = absurd (cc)

pub without_outdated : (asked now marked : List ℕ) (why : SnapshotFault) (given : Option Reply) → MatchOption given (refusal_without why ≡ None) (λ reply. IsSomeAnd (refusal_without why) (λ it. reply_of reply ≡ Err it)) → RefusedOpening asked now marked why → IfNone given (IsOutdated asked now)
without_outdated asked now marked why None told is = outdated_why asked now marked why told is
without_outdated asked now marked why (Some reply) told is = tt

-- at an opening
pub opening_outdated : (asked now marked : List ℕ) (why : SnapshotFault) → RefusedOpening asked now marked why → OnOutdated why (IsOutdated asked now)
opening_outdated asked now marked shown.TooSmall is = tt
opening_outdated asked now marked shown.NotAStore is = (marked, inl is)
opening_outdated asked now marked shown.Changed is = (marked, inr is)
opening_outdated asked now marked shown.Damaged is = tt
opening_outdated asked now marked shown.Memory is = tt
opening_outdated asked now marked shown.Disk is = tt

-- of bytes that they go on to
change_later : (asked mid now : List ℕ) → Evolves mid now → SawChange asked mid → SawChange asked now
change_later asked mid now since is = record {
  half = is.half;
  generation = is.generation;
  moment = is.moment;
  confirmed = is.confirmed;
  other = other_wider is.moment is.moment mid now is.half is.generation (evolves_here is.moment) is.other since;
}

gone_later : (asked marked mid now : List ℕ) → Evolves mid now → IsGone asked marked mid → IsGone asked marked now
gone_later asked marked mid now since is = record {
  half = is.half;
  generation = is.generation;
  fresh = is.fresh;
  begun = is.begun;
  other = other_wider marked marked mid now is.half is.generation (evolves_here marked) is.other since;
}

pub outdated_later : (asked mid now : List ℕ) → Evolves mid now → IsOutdated asked mid → IsOutdated asked now
outdated_later asked mid now since (marked, inl is) = (
  marked,
  inl (
    shut_wider asked asked mid now A (evolves_here asked) is.0 since,
    shut_wider asked asked mid now B (evolves_here asked) is.1 since,
  ),
)
outdated_later asked mid now since (marked, inr is) = (marked, inr (⊎_elim (λ changed. inl (change_later asked mid now since changed)) (λ gone. inr (∥∥₁_map gone (gone_later asked marked mid now since))) is))

-- NOTHING IN FORCE GOT OLDER
gone_low : (asked marked now : List ℕ) → IsGone asked marked now → in_force asked ≤ in_force now
gone_low asked marked now is =
    let below = open_below marked is.half is.begun.gate in
    let rises : in_force marked ≤ in_force now = ⊎_elim (λ shut. omega (arith, shut.since.rises, shut.until.rises)) (λ seen. let c = seen.2 in omega (arith, c.since.rises, c.between.rises, c.until.rises)) is.other in
    omega (arith, is.fresh, is.begun.stamp_is, below, rises)

change_low : (asked now : List ℕ) → SawChange asked now → in_force asked ≤ in_force now
change_low asked now is =
    let c = is.confirmed in
    let rises : in_force is.moment ≤ in_force now = ⊎_elim (λ shut. omega (arith, shut.since.rises, shut.until.rises)) (λ seen. let d = seen.2 in omega (arith, d.since.rises, d.between.rises, d.until.rises)) is.other in
    omega (arith, c.since.rises, c.between.rises, c.until.rises, rises)

pub outdated_low : (asked now : List ℕ) → IsOutdated asked now → in_force asked ≤ in_force now
outdated_low asked now (marked, inl is) = omega (arith, is.0.since.rises, is.0.until.rises)
outdated_low asked now (marked, inr (inl changed)) = change_low asked now changed
outdated_low asked now (marked, inr (inr gone)) = ∥∥₁_elim gone (hlevel props) (gone_low asked marked now)

-- SO MANY TIMES
was_low : (At : List ℕ → Type 0) (first now : List ℕ) → WasOutdated At first now → in_force first ≤ in_force now
was_low At first now (asked, since, at, is) = let low = outdated_low asked now is in omega (arith, since.rises, low)

pub times_low : (At : List ℕ → Type 0) (n : ℕ) (first now : List ℕ) → OutdatedTimes At n first now → in_force first ≤ in_force now
times_low At zero first now is = subst (λ (l : List ℕ). in_force first ≤ in_force l) (sym is) (omega arith)
times_low At (suc n) first now (mid, times, is) = let low = times_low At n first mid times in let last = was_low At mid now is in omega (arith, low, last)

pub once_more : (At : List ℕ → Type 0) (n : ℕ) (first mid now : List ℕ) → OutdatedTimes At n first mid → WasOutdated At mid now → OutdatedTimes At (n + 1) first now
once_more At n first mid now times is = subst (λ (k : ℕ). OutdatedTimes At k first now) (let one : suc n ≡ n + 1 = omega arith in one) (mid, times, is)

-- of what was there
pub at_once : (first now : List ℕ) → IsOutdated first now → WasOutdated (λ bytes. Unit {0}) first now
at_once first now is = (first, evolves_here first, tt, is)

-- A QUESTION that is answered by one try, after some that were outdated
once_reason : (first mid : List ℕ) (count : ℕ) (GaveUp : Type 0) (outcome : Result Answer Refusal) → in_force first ≤ in_force mid → HasCause mid count outcome → HasReason first count GaveUp outcome
once_reason first mid count GaveUp (Ok answer) low cause = tt
once_reason first mid count GaveUp (Err Disk) low cause = inl (record { asked = mid; later = low; failed = cause })
once_reason first mid count GaveUp (Err why) low cause = tt

pub asked_once : (At : List ℕ → Type 0) (n : ℕ) (honest : Type 0) (first mid now : List ℕ) (request : Request) (outcome : Result Answer Refusal) (count : ℕ) (GaveUp : Type 0) → (honest → OutdatedTimes At n first mid) → ReadStep honest mid request outcome now → (honest → HasCause mid count outcome) → IsAsked honest first request outcome now count GaveUp
asked_once At n honest first mid now request outcome count GaveUp times step cause = record {
  step = older_step honest first mid now request outcome (λ h. times_low At n first mid (times h)) step;
  reason = λ h. once_reason first mid count GaveUp outcome (times_low At n first mid (times h)) (cause h);
}

-- by none
pub asked_never : (honest : Type 0) (first now : List ℕ) (request : Request) (count : ℕ) (GaveUp : Type 0) → (honest → GaveUp) → IsAsked honest first request (Err Disk) now count GaveUp
asked_never honest first now request count GaveUp gave = record {
  step = record { named = refl; reads = λ h. tt };
  reason = λ h. inr (gave h);
}

-- by as many more, after writers were asked to stay away
held_reason : (Asked : List ℕ → Type 0) (first mid now : List ℕ) (count : ℕ) (Waited : Type 0) (outcome : Result Answer Refusal) → OutdatedTimes (λ bytes. Unit {0}) most_openings first mid → HasReason mid count (OutdatedTimes Asked most_holds mid now × Waited) outcome → HasReason first count (GivesUp Asked first now Waited) outcome
held_reason Asked first mid now count Waited (Ok answer) times reason = tt
held_reason Asked first mid now count Waited (Err Disk) times reason = ⊎_elim
    (λ fails. let low = times_low (λ bytes. Unit {0}) most_openings first mid times in inl (record { asked = fails.asked; later = omega (arith, low, fails.later); failed = fails.failed }))
    (λ more. inr (record { mid = mid; beside = times; held = more.0; waited = more.1 }))
    reason
held_reason Asked first mid now count Waited (Err why) times reason = tt

pub asked_more : (Asked : List ℕ → Type 0) (honest : Type 0) (first mid now : List ℕ) (request : Request) (outcome : Result Answer Refusal) (count : ℕ) (Waited : Type 0) → (honest → OutdatedTimes (λ bytes. Unit {0}) most_openings first mid) → IsAsked honest mid request outcome now count (OutdatedTimes Asked most_holds mid now × Waited) → IsAsked honest first request outcome now count (GivesUp Asked first now Waited)
asked_more Asked honest first mid now request outcome count Waited times is = record {
  step = older_step honest first mid now request outcome (λ h. times_low (λ bytes. Unit {0}) most_openings first mid (times h)) is.step;
  reason = λ h. held_reason Asked first mid now count Waited outcome (times h) (is.reason h);
}

-- A READER that is not opened: of an opening that saw both gates shut
pub record WasShut {F : Type 0} (honest : Type 0) (content : F → List ℕ) (refuses : F → F → SnapshotFault → Type 0) (first after : F) : Type 0 where
  pub before : F
  pub later : honest → in_force (content first) ≤ in_force (content before)
  pub refused : refuses before after shown.NotAStore

pub shut_refused : {F : Type 0} (honest : Type 0) (content : F → List ℕ) (refuses : F → F → SnapshotFault → Type 0) (first after : F) → WasShut honest content refuses first after → (honest → OutdatedTimes (λ bytes. Unit {0}) most_openings (content first) (content after)) → WasRefused honest content refuses first opened.NotAStore
shut_refused honest content refuses first after was times = record {
  before = was.before;
  after = after;
  why = shown.NotAStore;
  later = was.later;
  refused = was.refused;
  told = refl;
  often = λ h is. times h;
}

-- of one that was refused for good
lasting_told : (why : SnapshotFault) (fault : OpenFault) → lasting_fault why ≡ Some fault → (opening_fault why ≡ Some fault) × (why ≡ shown.NotAStore → ⊥)
lasting_told shown.TooSmall fault is = (is, λ same. cc)
lasting_told shown.NotAStore fault is = absurd (cc)
lasting_told shown.Changed fault is = absurd (cc)
lasting_told shown.Damaged fault is = (is, λ same. cc)
lasting_told shown.Memory fault is = (is, λ same. cc)
lasting_told shown.Disk fault is = (is, λ same. cc)

pub lasting_refused : {F : Type 0} (honest : Type 0) (content : F → List ℕ) (refuses : F → F → SnapshotFault → Type 0) (first before after : F) (why : SnapshotFault) (fault : OpenFault) → (honest → in_force (content first) ≤ in_force (content before)) → refuses before after why → lasting_fault why ≡ Some fault → WasRefused honest content refuses first fault
lasting_refused honest content refuses first before after why fault later refused is =
    let told = lasting_told why fault is in
    record {
      before = before;
      after = after;
      why = why;
      later = later;
      refused = refused;
      told = told.0;
      often = λ h same. absurd (told.1 same);
    }

-- or may be opened again
pub lasting_outdated : (asked now : List ℕ) (why : SnapshotFault) → lasting_fault why ≡ None → OnOutdated why (IsOutdated asked now) → IsOutdated asked now
lasting_outdated asked now shown.TooSmall none is = absurd (cc)
lasting_outdated asked now shown.NotAStore none is = is
lasting_outdated asked now shown.Changed none is = is
lasting_outdated asked now shown.Damaged none is = absurd (cc)
lasting_outdated asked now shown.Memory none is = absurd (cc)
lasting_outdated asked now shown.Disk none is = absurd (cc)
