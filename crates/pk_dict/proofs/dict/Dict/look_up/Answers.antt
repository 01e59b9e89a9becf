-- The slice as a source is the dictionary as a whole, and never fails.
use Rattle.std.proofs.Common.{arith, sym, ap, ◌∙◌, ◌≡◌, List, ℕ, length, Ok}
use Rattle.pk_posting.specs.Slice.{slice_bytes}
use Rattle.pk_dict.specs.Dict.{dict_bytes}
use Rattle.pk_dict.proofs.Slices.{is_damaged, long_term, never_disk, whole, whole_term}
use Rattle.pk_dict.proofs.dict.Dict.look_up.Goals as goal

pub returns-in-Ok-look_up_in-clause-found : goal.returns-in-Ok-look_up_in-clause-found
returns-in-Ok-look_up_in-clause-found c es d len =
    let size : c.in-Ok.bytes ≡ length (dict_bytes c.args.self.now) = c.in-Ok.ensures.1 in
    ap Ok (c.in-Ok-look_up_in.ensures.found tt es (omega (arith, size, ap (λ (l : List ℕ). length l) c.new.ensures.bytes))
    (whole (slice_bytes c.new.result) (dict_bytes c.args.self.now) c.in-Ok.bytes c.args.self.now.terms es c.new.ensures.bytes size d) len)

pub returns-in-Err-clause-found : goal.returns-in-Err-clause-found
returns-in-Err-clause-found c es d len =
    let size : c.in-Ok.bytes ≡ length (dict_bytes c.args.self.now) = c.in-Ok.ensures.1 in
    absurd (never_disk c.in-Err.field-0 c.in-Err.ensures.left.faults
    (c.in-Err.ensures.found tt es (omega (arith, size, ap (λ (l : List ℕ). length l) c.new.ensures.bytes))
    (whole (slice_bytes c.new.result) (dict_bytes c.args.self.now) c.in-Ok.bytes c.args.self.now.terms es c.new.ensures.bytes size d) len))

pub returns-in_default-clause-value : goal.returns-in_default-clause-value
returns-in_default-clause-value c = long_term (dict_bytes c.args.self.now) c.args.self.now.terms c.args.term.now (omega (arith, c.in_default.ensures))

pub returns-in-Ok-look_up_in-clause-value : goal.returns-in-Ok-look_up_in-clause-value
returns-in-Ok-look_up_in-clause-value c =
    sym (whole_term (slice_bytes c.new.result) (dict_bytes c.args.self.now) c.in-Ok.bytes c.args.self.now.terms c.args.term.now c.new.ensures.bytes c.in-Ok.ensures.1 (omega (arith, c.in-Ok.ensures)))
    ∙ c.in-Ok-look_up_in.ensures.value tt

pub returns-in-Err-clause-value : goal.returns-in-Err-clause-value
returns-in-Err-clause-value c =
    sym (whole_term (slice_bytes c.new.result) (dict_bytes c.args.self.now) c.in-Ok.bytes c.args.self.now.terms c.args.term.now c.new.ensures.bytes c.in-Ok.ensures.1 (omega (arith, c.in-Ok.ensures)))
    ∙ is_damaged c.in-Err.field-0 _ (c.in-Err.ensures.value tt) (never_disk c.in-Err.field-0 c.in-Err.ensures.left.faults)
