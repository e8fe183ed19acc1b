use Rattle.std.proofs.Common.{refl, true, [], ◌∷◌, ◌++◌, List}
use Rattle.ec_types.specs.declared.bus.BusKind.TheVariants.{Lpc}
use Rattle.ec_model.specs.declared.event.Access.TheVariants.{PortIn}
use Rattle.ec_model.specs.declared.event.WorldReset.TheVariants.{Pin as ByPin}
use Rattle.ec_model.specs.declared.event.WorldEvent.TheVariants.{Reset, Byte}
use Rattle.ec_model.specs.declared.event.Event.{Event}
use Rattle.ec_model.specs.declared.event.Event.TheVariants.{Access, Tick, Reset as ResetEvent, Power as PowerEvent}
use Rattle.ec_model.specs.declared.event.Entry.{Entry}
use Rattle.ec_model.specs.declared.event.Entry.TheVariants.{Step, Mark}
use Rattle.flash_dev.specs.declared.hurt.Hurt.TheVariants.{Whole}
use Rattle.ec_model.specs.Table.{Table, off_table}
use Rattle.ec_model.specs.Bench.{Armed, Bench, unarmed}
use Rattle.ec_examples.specs.Flashes.{e64}
use Rattle.ec_examples.specs.Events.{table_after}
use Rattle.ec_examples.specs.Entries.{plain, waited}
use Rattle.ec_examples.proofs.BenchLemmas.{whole_entry}
use Rattle.ec_examples.proofs.bench.script_of_four_lines.Goals as goal

-- the controller behind these events
behind : List Event → Table
behind events = table_after (off_table e64 true Lpc) events

-- the bench behind these events, with these armed
bench : List Event → List Armed → Bench
bench events armed = record (unarmed (behind events) 0 0) { armed = armed }

-- the power is on
on : List Event
on = PowerEvent true ∷ []

-- what the third line finds armed
both : List Armed
both = record { left = 2; event = Byte 99 } ∷ record { left = 3; event = Reset ByPin } ∷ []

-- the entries of the last line
last : List Entry
last = plain (ResetEvent ByPin) 0 ∷ waited ∷ []

-- the entries from the second port on
from_second : List Entry
from_second = Step (Access (PortIn 0x801)) 0 0 99 Whole ∷ Mark 4 ∷ last

-- the entries from the first port on
from_first : List Entry
from_first = plain (Access (PortIn 0x800)) 0 ∷ from_second

pub returns : goal.returns
unfolding behind bench on both last from_second from_first
returns c = (
  plain (PowerEvent true) 0 ∷ [],
  Mark 1 ∷ Mark 2 ∷ Mark 3 ∷ from_first,
  bench on [],
  refl,
  (bench on [], refl, refl, refl, whole_entry (off_table e64 true Lpc) [] (PowerEvent true) 0 0 0 (behind on) refl, refl),
  (
    Mark 1 ∷ [],
    Mark 2 ∷ Mark 3 ∷ from_first,
    bench on [],
    refl,
    (refl, refl),
    (
      [],
      Mark 2 ∷ Mark 3 ∷ from_first,
      bench on (record { left = 2; event = Byte 99 } ∷ []),
      refl,
      (refl, refl, refl),
      (
        Mark 2 ∷ [],
        Mark 3 ∷ from_first,
        bench on (record { left = 2; event = Byte 99 } ∷ []),
        refl,
        (refl, refl),
        (
          [],
          Mark 3 ∷ from_first,
          bench on both,
          refl,
          (refl, refl, refl),
          (
            Mark 3 ∷ [],
            from_first,
            bench on both,
            refl,
            (refl, refl),
            (
              plain (Access (PortIn 0x800)) 0 ∷ [],
              from_second,
              bench on (record { left = 1; event = Byte 99 } ∷ record { left = 2; event = Reset ByPin } ∷ []),
              refl,
              record {
                world = [];
                own = plain (Access (PortIn 0x800)) 0;
                middle = bench on (record { left = 1; event = Byte 99 } ∷ record { left = 2; event = Reset ByPin } ∷ []);
                parts = refl;
                events = refl;
                own_is =
                    (refl, refl, refl, whole_entry (behind on) (record { left = 1; event = Byte 99 } ∷ record { left = 2; event = Reset ByPin } ∷ []) (Access (PortIn 0x800)) 0 0 0 (behind on) refl);
              },
              (
                Step (Access (PortIn 0x801)) 0 0 99 Whole ∷ [],
                Mark 4 ∷ last,
                bench on (record { left = 1; event = Reset ByPin } ∷ []),
                refl,
                record {
                  world = [];
                  own = Step (Access (PortIn 0x801)) 0 0 99 Whole;
                  middle = bench on (record { left = 1; event = Reset ByPin } ∷ []);
                  parts = refl;
                  events = refl;
                  own_is =
                      (refl, refl, refl, whole_entry (behind on) (record { left = 1; event = Reset ByPin } ∷ []) (Access (PortIn 0x801)) 0 0 99 (behind on) refl);
                },
                (
                  Mark 4 ∷ [],
                  last,
                  bench on (record { left = 1; event = Reset ByPin } ∷ []),
                  refl,
                  (refl, refl),
                  (
                    last,
                    [],
                    bench (on ++ ResetEvent ByPin ∷ Tick ∷ []) [],
                    refl,
                    record {
                      world = plain (ResetEvent ByPin) 0 ∷ [];
                      own = waited;
                      middle = bench (on ++ ResetEvent ByPin ∷ []) [];
                      parts = refl;
                      events =
                          (bench (on ++ ResetEvent ByPin ∷ []) [], refl, refl, refl, whole_entry (behind on) [] (ResetEvent ByPin) 0 0 0 (behind (on ++ ResetEvent ByPin ∷ [])) refl, refl);
                      own_is =
                          (refl, refl, refl, whole_entry (behind (on ++ ResetEvent ByPin ∷ [])) [] Tick 0 0 0 (behind (on ++ ResetEvent ByPin ∷ Tick ∷ [])) refl);
                    },
                    (refl, refl),
                  ),
                ),
              ),
            ),
          ),
        ),
      ),
    ),
  ),
)
