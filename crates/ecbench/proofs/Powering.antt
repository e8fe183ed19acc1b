-- A script behind the power-on.
use Rattle.std.proofs.Common.{◌≡◌, sym, ap, ◌∙◌, subst, ℕ, ◌+◌, arith, Bool, false, List, [], ◌∷◌, ◌++◌, ◌⊎◌, inl, inr, Option}
use Rattle.std.specs.Prelude.{option_map}
use Rattle.ec_types.specs.declared.bus.BusKind.{BusKind}
use Rattle.flash_dev.specs.Device.{DeviceView}
use Rattle.flash_dev.specs.CutFlash.{cut_device, uncut}
use Rattle.ec_model.specs.declared.event.Entry.{Entry}
use Rattle.ec_model.specs.declared.event.Entry.TheVariants.{Step}
use Rattle.ec_model.specs.Table.{Table, off_table}
use Rattle.ec_wire.specs.Calls.{WireView}
use Rattle.ec_core.specs.View.{EcView}
use Rattle.bench_wire.specs.BenchView.{BenchView, wire_view}
use Rattle.bench_wire.specs.Adding.{Extends}
use Rattle.bench_wire.proofs.Extending.{extends-then}
use Rattle.ecbench.specs.declared.run.Exit.{Exit}
use Rattle.ecbench.specs.declared.run.Exit.TheVariants.{Done, BadWords, BadFlash, BadLine, SourceFault, SinkFault, ShelfFault, NoMemory, ScriptTooLong}
use Rattle.bench_shelf.specs.Shelves.{File}
use Rattle.ecbench.specs.Lines.{Around}
use Rattle.ecbench.specs.Endings.{opened, around_of, EndsOn, Begins, HandsBack, NothingHappened}
use Rattle.ecbench.specs.Serving.{DoesNothing, PowersAndServes, Drives}
use Rattle.ecbench.proofs.OneCall.{extends-none, extends-spare}

-- nothing was done, or power came and a script was served
drives-either : (around : Around) (exit : Exit) (old new : WireView) (left rest before after : Option (List ℕ)) → Drives around exit old new left rest before after → DoesNothing old new left rest before after ⊎ PowersAndServes around exit old new left rest before after
drives-either around Done old new left rest before after drives = inr drives
drives-either around BadWords old new left rest before after drives = inr drives
drives-either around BadFlash old new left rest before after drives = inr drives
drives-either around (BadLine number reason) old new left rest before after drives = inr drives
drives-either around SourceFault old new left rest before after drives = inr drives
drives-either around SinkFault old new left rest before after drives = inr drives
drives-either around ShelfFault old new left rest before after drives = inr drives
drives-either around NoMemory old new left rest before after drives = drives
drives-either around ScriptTooLong old new left rest before after drives = inr drives

-- some entries were added
pub record Grew (old new : WireView) : Type 0 where
  pub added : List Entry
  pub extends : Extends added old new

-- all that a run added
pub drives-grew : (around : Around) (exit : Exit) (old new : WireView) (left rest before after : Option (List ℕ)) → Drives around exit old new left rest before after → Grew old new
drives-grew around exit old new left rest before after drives =
    elim (drives-either around exit old new left rest before after drives) [
      | inl nothing ↦ record { added = []; extends = subst (λ (view : WireView). Extends [] old view) (sym nothing.same) (extends-none old) }
      | inr served ↦
          let now = served.powers.happens in
          let step = Step now.event 0 0 0 now.hurt ∷ [] in
          record { added = step ++ served.serves.own; extends = extends-then step served.serves.own old served.powered new (extends-spare served.spare step old served.powered now.adds.extends) served.serves.extends }
    ]

-- a bench that was just made, as its host sees it
pub opens : (kind : BusKind) (pin : Bool) (came device : DeviceView) (bench : BenchView) (controller : EcView) → bench ≡ record { entries = []; spare = 0; armed = []; controller = controller } → controller.on ≡ false → controller.table ≡ option_map (λ bytes. off_table bytes pin kind) device.held → controller.device ≡ device →
    device ≡ cut_device (uncut came) → wire_view kind bench ≡ opened kind pin came
opens kind pin came device bench controller same off told device_is uncut_is =
    let made : Bool → Option Table → DeviceView → WireView = λ on table device. record {
      entries = [];
      spare = 0;
      on = on;
      bus = kind;
      armed = [];
      cut = device.armed;
      faults = device.faults;
      cuts = device.cuts;
      own_cuts = device.own_cuts;
      table = table;
    } in
    let none : came.cuts + 0 + 0 ≡ came.cuts = omega arith in
    ap (wire_view kind) same
    ∙ ap (λ (on : Bool). made on controller.table controller.device) off
    ∙ ap (λ (table : Option Table). made false table controller.device) told
    ∙ ap (λ (now : DeviceView). made false (option_map (λ bytes. off_table bytes pin kind) device.held) now) (device_is ∙ uncut_is)
    ∙ ap (λ (now : DeviceView). made false (option_map (λ bytes. off_table bytes pin kind) now.held) (cut_device (uncut came))) uncut_is
    ∙ ap (λ (cuts : ℕ). record (opened kind pin came) { cuts = cuts }) none

-- power came, and a script was carried out
begins : (files : Option (List File)) (bus : BusKind) (pin : Bool) (exit : Exit) (came back : DeviceView) (new : WireView) (left rest before after : Option (List ℕ)) (entries : List Entry) → entries ≡ new.entries → HandsBack new back → PowersAndServes (around_of files came) exit (opened bus pin came) new left rest before after →
    Begins files bus pin exit came back left rest before after entries
begins files bus pin exit came back new left rest before after entries journal hands served =
    record { spare = served.spare; powered = served.powered; last = new; powers = served.powers; plays = served.serves.plays; entries_are = journal; hands = hands }

-- nothing happened
nothing-happened : (bus : BusKind) (pin : Bool) (came : DeviceView) (new : WireView) (left rest before after : Option (List ℕ)) (entries : List Entry) → entries ≡ new.entries → DoesNothing (opened bus pin came) new left rest before after → NothingHappened left rest before after entries
nothing-happened bus pin came new left rest before after entries journal nothing =
    record { unread = nothing.unread; unprinted = nothing.unprinted; no_entry = journal ∙ ap (λ (view : WireView). view.entries) nothing.same }

-- what an exit says of a script that was carried out
pub drives-ends : (files : Option (List File)) (bus : BusKind) (pin : Bool) (exit : Exit) (came back : DeviceView) (new : WireView) (left rest before after : Option (List ℕ)) (entries : List Entry) → entries ≡ new.entries → HandsBack new back → Drives (around_of files came) exit (opened bus pin came) new left rest before after →
    EndsOn files bus pin exit came back left rest before after entries
drives-ends files bus pin NoMemory came back new left rest before after entries journal hands (inl nothing) = inl (nothing-happened bus pin came new left rest before after entries journal nothing)
drives-ends files bus pin NoMemory came back new left rest before after entries journal hands (inr served) = inr (begins files bus pin NoMemory came back new left rest before after entries journal hands served)
drives-ends files bus pin Done came back new left rest before after entries journal hands drives = begins files bus pin Done came back new left rest before after entries journal hands drives
drives-ends files bus pin BadWords came back new left rest before after entries journal hands drives = begins files bus pin BadWords came back new left rest before after entries journal hands drives
drives-ends files bus pin BadFlash came back new left rest before after entries journal hands drives = begins files bus pin BadFlash came back new left rest before after entries journal hands drives
drives-ends files bus pin (BadLine number reason) came back new left rest before after entries journal hands drives = begins files bus pin (BadLine number reason) came back new left rest before after entries journal hands drives
drives-ends files bus pin SourceFault came back new left rest before after entries journal hands drives = begins files bus pin SourceFault came back new left rest before after entries journal hands drives
drives-ends files bus pin SinkFault came back new left rest before after entries journal hands drives = begins files bus pin SinkFault came back new left rest before after entries journal hands drives
drives-ends files bus pin ShelfFault came back new left rest before after entries journal hands drives = begins files bus pin ShelfFault came back new left rest before after entries journal hands drives
drives-ends files bus pin ScriptTooLong came back new left rest before after entries journal hands drives = begins files bus pin ScriptTooLong came back new left rest before after entries journal hands drives
