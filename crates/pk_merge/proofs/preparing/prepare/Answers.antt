-- What is left of the inputs is prepared, where that is anything.
use Rattle.std.proofs.Common.{◌≡◌, ◌∙◌, ◌<◌, inl, inr, List, ℕ, length, true, false, sym, ap, subst, arith}
use Rattle.std.specs.Prelude.{◌==◌, All}
use Rattle.std.specs.List.Sorted.{IsStrictlyIncreasing}
use Rattle.std.proofs.lemmas.Bool.{cases_lt, eq-eqb, eqb-true}
use Rattle.pk_join.specs.declared.input.MergeInput.{MergeInput}
use Rattle.pk_join.specs.Inputs.{LiesInside, SpellsInputs}
use Rattle.pk_join.specs.Whole.{AllAreWhole}
use Rattle.pk_join.proofs.ComeLemmas.{within_given}
use Rattle.pk_model.specs.Collection.{numbers_of}
use Rattle.pk_segment.specs.Spelling.{AreDocuments}
use Rattle.pk_state.specs.Committed.{Stored, all_in, live_in}
use Rattle.pk_merge.specs.declared.kept.Kept.{Kept}
use Rattle.pk_merge.specs.Keeping.{AreKept, StayApart}
use Rattle.pk_merge.specs.Left.{kept_in}
use Rattle.pk_merge.specs.Prepared.{IsPrepared, PreparesAs}
use Rattle.pk_merge.proofs.FaultLemmas.{passed_on}
use Rattle.pk_merge.proofs.GatherLemmas.{fails_in}
use Rattle.pk_merge.proofs.InputLemmas.{rise_all}
use Rattle.pk_merge.proofs.KeepLemmas.{kept_long, none_kept}
use Rattle.pk_merge.proofs.LiveLemmas.{live_are}
use Rattle.pk_merge.proofs.WholeLemmas.{all_name_whole}
use Rattle.pk_merge.proofs.preparing.prepare.Goals as goal

zero_of : (n : ℕ) → (n == 0) ≡ true → n ≡ 0
zero_of n e = eqb-true n 0 e

some_of : (n : ℕ) → (n == 0) ≡ false → 0 < n
some_of n e = elim (cases_lt 0 n) [
  | inl lt ↦ lt
  | inr le ↦ absurd (let k : true ≡ false = sym (eq-eqb n 0 (omega (arith, le))) ∙ e in cc)
]

pub prepare_left-requires-clause-some : goal.prepare_left-requires-clause-some
prepare_left-requires-clause-some g c = omega (
  arith,
  some_of c.in_ok-read.left.documents.len (sym c.is_empty.ensures ∙ c.if-is_empty.false),
  c.in_ok-read.left.documents.ok,
)

pub prepare_left-requires-clause-within : goal.prepare_left-requires-clause-within
prepare_left-requires-clause-within g c =
    within_given _ c.args.inputs.now c.in_ok-read.read.items c.in_ok-read.ensures.extents
    (subst (λ (n : ℕ). All (LiesInside n) c.args.inputs.now) (sym c.read_all.ensures.left.keeps.size)
    c.requires.inside)

pub returns-in_err-read-clause-prepared : goal.returns-in_err-read-clause-prepared
returns-in_err-read-clause-prepared g c = λ honest stored spells rising.
    let fault = c.in_err-read.ensures.read honest stored spells rising in
    passed_on (PreparesAs (g.D.Disk.content c.args.disk.now) c.args.inputs.now stored)
    c.from_residual.result c.from_residual.ensures.1
    (fails_in (live_in stored) 2 c.in_err-read.field-0.0 fault)

pub returns-then-is_empty-clause-prepared : goal.returns-then-is_empty-clause-prepared
returns-then-is_empty-clause-prepared g c = λ honest stored spells rising.
    let content = g.D.Disk.content c.args.disk.now in
    let read = c.in_ok-read.ensures.read honest stored spells rising in
    none_kept content (kept_in c.in_ok-read.left) (live_in stored) read.1
    (omega (
      arith,
      zero_of c.in_ok-read.left.documents.len (sym c.is_empty.ensures ∙ c.if-is_empty.true),
      c.in_ok-read.left.documents.ok,
    ))

-- on a disk that was only read the inputs spell the same, and what they leave a segment may hold
known : (old new : List ℕ) (inputs : List MergeInput) (stored : List Stored) (ks : List Kept) → new ≡ old
    → SpellsInputs old inputs stored → IsStrictlyIncreasing (numbers_of (all_in stored))
    → AreKept old ks (live_in stored) → 0 < length ks
    → SpellsInputs new inputs stored × AreKept new ks (live_in stored) × AreDocuments (live_in stored)
known old new inputs stored ks same spells rising kept some = (
  subst (λ (b : List ℕ). SpellsInputs b inputs stored) (sym same) spells,
  subst (λ (b : List ℕ). AreKept b ks (live_in stored)) (sym same) kept,
  live_are old inputs stored spells (rise_all old inputs stored spells rising)
      (omega (arith, some, kept_long old ks (live_in stored) kept)),
)

pub returns-in_err-prepared-clause-prepared : goal.returns-in_err-prepared-clause-prepared
returns-in_err-prepared-clause-prepared g c = λ honest stored spells rising.
    let content = g.D.Disk.content in
    let inputs = c.args.inputs.now in
    let left = c.in_ok-read.left in
    let read = c.in_ok-read.ensures.read honest stored spells rising in
    let is = known (content c.args.disk.now) (content c.read_all.new.disk) inputs stored (kept_in left)
    (c.read_all.ensures.left.keeps.read honest).bytes spells rising read.1
    (omega (arith, some_of left.documents.len (sym c.is_empty.ensures ∙ c.if-is_empty.false), left.documents.ok)) in
    let fault = c.in_err-prepared.ensures.prepared honest inputs stored is.0 c.in_ok-read.ensures.extents read.0
    is.1 is.2 in
    passed_on (PreparesAs (content c.args.disk.now) inputs stored)
    c.from_residual-in_err-prepared.result c.from_residual-in_err-prepared.ensures.1 fault

pub returns-clause-prepared : goal.returns-clause-prepared
returns-clause-prepared g c = λ honest stored spells rising.
    let content = g.D.Disk.content in
    let inputs = c.args.inputs.now in
    let left = c.in_ok-read.left in
    let read = c.in_ok-read.ensures.read honest stored spells rising in
    let same = (c.read_all.ensures.left.keeps.read honest).bytes in
    let is = known (content c.args.disk.now) (content c.read_all.new.disk) inputs stored (kept_in left) same
    spells rising read.1
    (omega (arith, some_of left.documents.len (sym c.is_empty.ensures ∙ c.if-is_empty.false), left.documents.ok)) in
    subst (λ (b : List ℕ). IsPrepared b inputs stored c.in_ok-prepared.prepared) same
    (c.in_ok-prepared.ensures.prepared honest inputs stored is.0 c.in_ok-read.ensures.extents read.0 is.1 is.2)

pub returns-clause-ready : goal.returns-clause-ready
returns-clause-ready g c = (
  c.in_ok-prepared.ensures.disk_bytes ∙ c.in_ok-read.ensures.disk_bytes,
  c.in_ok-prepared.ensures.inputs c.args.inputs.now c.in_ok-read.ensures.extents,
  subst (StayApart c.args.inputs.now) (sym c.in_ok-prepared.ensures.documents) c.in_ok-read.ensures.apart,
)

pub returns-then-is_empty-clause-enough : goal.returns-then-is_empty-clause-enough
returns-then-is_empty-clause-enough g c = λ honest. omega (
  arith,
  c.in_ok-read.ensures.enough honest,
  zero_of c.in_ok-read.left.documents.len (sym c.is_empty.ensures ∙ c.if-is_empty.true),
  c.in_ok-read.left.documents.ok,
)

pub returns-clause-enough : goal.returns-clause-enough
returns-clause-enough g c = λ honest. omega (
  arith,
  c.in_ok-read.ensures.enough honest,
  ap length c.in_ok-prepared.ensures.documents,
)

pub returns-clause-whole : goal.returns-clause-whole
returns-clause-whole g c = λ honest.
    let K = g.D.Disk.honest in
    let read = c.in_ok-read.read.items in
    all_name_whole K (g.D.Disk.content c.args.disk.now) c.args.inputs.now read honest c.requires.inside
    c.in_ok-read.ensures.extents (c.in_ok-read.ensures.said honest)
    (subst (λ (b : List ℕ). All (AllAreWhole K b) read) (c.read_all.ensures.left.keeps.read honest).bytes
    c.in_ok-prepared.ensures.whole)
