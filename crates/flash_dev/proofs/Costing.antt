-- What calls cost at most.
use Rattle.std.proofs.Common.{◌≡◌, refl, ℕ, ◌≤◌, arith}
use Rattle.flash_dev.specs.Counts.{RisesAtMost}
use Rattle.flash_dev.specs.View.{DeviceView}
use Rattle.flash_dev.specs.Costs.{Costs}
use Rattle.flash_dev.specs.declared.hurt.Hurt.{Hurt}
use Rattle.flash_dev.specs.declared.hurt.Hurt.TheVariants.{Whole}

-- a count that stays
pub rises-none : (most before now : ℕ) → now ≡ before → RisesAtMost most before now
rises-none most before now same = record { least = omega (arith, same); most = omega (arith, same) }

-- a count may rise by more than it did
pub rises-more : (amount most before now : ℕ) → amount ≤ most → RisesAtMost amount before now → RisesAtMost most before now
rises-more amount most before now few rises = record { least = rises.least; most = omega (arith, rises.most, few) }

-- what was asked for at most may be more
pub costs-more : (hurt : Hurt) (asked more : ℕ) (old new : DeviceView) → asked ≤ more → Costs hurt asked old new → Costs hurt more old new
costs-more hurt asked more old new few costs =
    record {
      extent = costs.extent;
      faults = costs.faults;
      cuts = costs.cuts;
      own_cuts = costs.own_cuts;
      rose = costs.rose;
      refusals = costs.refusals;
      fetched = rises-more asked more old.fetched new.fetched few costs.fetched;
    }

-- where nothing was done, nothing is spent
pub costs-none : (asked : ℕ) (device : DeviceView) → Costs Whole asked device device
costs-none asked device =
    record {
      extent = refl;
      faults = omega arith;
      cuts = omega arith;
      own_cuts = omega arith;
      rose = tt;
      refusals = refl;
      fetched = rises-none asked device.fetched device.fetched refl;
    }
