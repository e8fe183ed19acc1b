-- A range of a file that was stored, as an operation of a flash.
use Rattle.std.proofs.Common.{◌≡◌, refl, ap, ℕ, ◌≤◌, List, arith, Result, Ok, Err, if◌then◌else◌}
use Rattle.std.specs.Prelude.{IfErr, OnOk, is_err}
use Rattle.flash_dev.specs.Flash.{Torn}
use Rattle.flash_dev.specs.Counts.{raised_by}
use Rattle.flash_dev.specs.Operations.{Operation, operation_range, operated}
use Rattle.flash_dev.specs.Device.{IsChange}
use Rattle.flash_dev.specs.declared.device.DevErr.{DevErr}
use Rattle.flash_dev.specs.declared.device.DevErr.TheVariants.{Failed, PowerLost}
use Rattle.bench_io.specs.Files.{FileState, file_device}

-- what a file counts once a range was stored
abbrev pub stored_counts : {T : Type 0} → Result T DevErr → FileState → List ℕ → FileState
stored_counts result old bytes = record {
  bytes = bytes;
  faults = if is_err result then raised_by 1 old.faults else old.faults;
  wear = raised_by 1 old.wear;
  fetched = old.fetched;
}

pub stored-change : {T : Type 0} (operation : Operation) (old new : FileState) (result : Result T DevErr) → old.faults ≤ new.faults → OnOk result (new.bytes ≡ operated operation old.bytes) → Torn (operation_range operation).at (operation_range operation).size old.bytes new.bytes →
    IfErr result (λ error. error ≡ Failed) → new ≡ stored_counts result old new.bytes → IsChange operation (file_device old) (file_device new) result
stored-change operation old new (Ok x) faults done outside failed counts = record {
  done = done;
  outside = outside;
  falls = tt;
  lost = λ lost. cc;
  extent = outside.same_length;
  causes = record { faults_later = faults; cuts_later = omega arith; failed = λ wrong. cc; lost = λ wrong. cc };
  own_cuts = omega arith;
  refusals = ap (λ (file : FileState). file.faults) counts;
  begun = ap (λ (file : FileState). file.wear) counts;
  armed = refl;
  wear = ap (λ (file : FileState). file.wear) counts;
  fetched = ap (λ (file : FileState). file.fetched) counts;
}
stored-change operation old new (Err Failed) faults done outside failed counts =
    let rose : new.faults ≡ raised_by 1 old.faults = ap (λ (file : FileState). file.faults) counts in
    record {
      done = done;
      outside = outside;
      falls = tt;
      lost = λ lost. cc;
      extent = outside.same_length;
      causes = record { faults_later = faults; cuts_later = omega arith; failed = λ is. omega (arith, rose); lost = λ wrong. cc };
      own_cuts = omega arith;
      refusals = rose;
      begun = ap (λ (file : FileState). file.wear) counts;
      armed = refl;
      wear = ap (λ (file : FileState). file.wear) counts;
      fetched = ap (λ (file : FileState). file.fetched) counts;
    }
stored-change operation old new (Err PowerLost) faults done outside failed counts = cc
