-- The refusals of the round trips. Memory that was given and is too short has the number of a buffer that is.
use Rattle.std.specs.Prelude.{ℕ, None, Option}
use Rattle.formats.specs.Outcomes.{line_of, number_of}
use Rattle.formats.specs.declared.faults.SheetFault.{SheetFault}
use Rattle.writers.specs.Refusals.{number_of as write_number}
use Rattle.writers.specs.declared.refusals.WriteRefusal.{WriteRefusal}
use Rattle.writers.specs.declared.refusals.WriteRefusal.TheVariants.{Room as WriteRoom}
use Rattle.round_trips.specs.declared.refusals.RereadRefusal.{RereadRefusal}
use Rattle.round_trips.specs.declared.refusals.RereadRefusal.TheVariants.{Places as RereadPlaces, Write}
use Rattle.round_trips.specs.declared.refusals.RewriteRefusal.{RewriteRefusal}
use Rattle.round_trips.specs.declared.refusals.RewriteRefusal.TheVariants.{Load, Places, Room}

-- the number of each refusal of `rewrite`, and the line that it names
abbrev pub rewrite_number : RewriteRefusal → ℕ
rewrite_number (Load f) = number_of f
rewrite_number Places = write_number WriteRoom
rewrite_number Room = write_number WriteRoom

abbrev pub rewrite_line : RewriteRefusal → Option ℕ
rewrite_line (Load f) = line_of f
rewrite_line Places = None
rewrite_line Room = None

-- the number of each refusal of `reread`
abbrev pub reread_number : RereadRefusal → ℕ
reread_number RereadPlaces = write_number WriteRoom
reread_number (Write f) = write_number f

-- the refusals of loading and writing, passed on whole
abbrev pub from_fault : SheetFault → RewriteRefusal
from_fault f = Load f

abbrev pub from_refusal : WriteRefusal → RereadRefusal
from_refusal f = Write f
