-- The slice as a source is the dictionary as a whole, and never fails.
use Rattle.std.proofs.Common.{arith, sym, ap, ◌∙◌, List, ℕ, length}
use Rattle.pk_posting.specs.Slice.{slice_bytes}
use Rattle.pk_dict.specs.Dict.{dict_bytes}
use Rattle.pk_dict.proofs.Slices.{lists_damaged, long_prefix, never_disk_listed, whole, whole_prefix}
use Rattle.pk_dict.proofs.dict.Dict.entries_with_prefix.Goals as goal

pub returns-in_default-clause-value : goal.returns-in_default-clause-value
returns-in_default-clause-value c = long_prefix (dict_bytes c.args.self.now) c.args.self.now.terms c.args.prefix.now (omega (arith, c.in_default.ensures))

pub returns-in-Ok-entries_in : goal.returns-in-Ok-entries_in
returns-in-Ok-entries_in c = record {
  value = sym (whole_prefix (slice_bytes c.new.result) (dict_bytes c.args.self.now) c.in-Ok.bytes c.args.self.now.terms c.args.prefix.now c.new.ensures.bytes c.in-Ok.ensures.1 (omega (arith, c.in-Ok.ensures)))
      ∙ c.in-Ok-entries_in.ensures.value tt;
  found = λ es d len.
      c.in-Ok-entries_in.ensures.found tt es (omega (arith, c.in-Ok.ensures.1, ap (λ (l : List ℕ). length l) c.new.ensures.bytes))
      (whole (slice_bytes c.new.result) (dict_bytes c.args.self.now) c.in-Ok.bytes c.args.self.now.terms es c.new.ensures.bytes c.in-Ok.ensures.1 d) len;
}

pub returns-in-Err-Damaged : goal.returns-in-Err-Damaged
returns-in-Err-Damaged c = record {
  value = sym (whole_prefix (slice_bytes c.new.result) (dict_bytes c.args.self.now) c.in-Ok.bytes c.args.self.now.terms c.args.prefix.now c.new.ensures.bytes c.in-Ok.ensures.1 (omega (arith, c.in-Ok.ensures)))
      ∙ lists_damaged c.in-Err-Damaged.field-0 _ (c.in-Err-Damaged.ensures.value tt) c.in-Err-Damaged.field-0-is;
  found = λ es d len.
      absurd (c.in-Err-Damaged.ensures.found tt es (omega (arith, c.in-Ok.ensures.1, ap (λ (l : List ℕ). length l) c.new.ensures.bytes))
      (whole (slice_bytes c.new.result) (dict_bytes c.args.self.now) c.in-Ok.bytes c.args.self.now.terms es c.new.ensures.bytes c.in-Ok.ensures.1 d) len c.in-Err-Damaged.field-0-is);
}

pub returns-in-Err-Disk : goal.returns-in-Err-Disk
returns-in-Err-Disk c = record {
  value = absurd (never_disk_listed _ c.in-Err-Disk.ensures.left.faults c.in-Err-Disk.field-0-is);
  found = λ es d len. absurd (never_disk_listed _ c.in-Err-Disk.ensures.left.faults c.in-Err-Disk.field-0-is);
}
