-- What is printed of the reason of a fault.
use Rattle.std.specs.Prelude.{ℕ, List, codes}
use Rattle.walker.specs.declared.Reason.{Reason}
use Rattle.walker.specs.declared.Reason.TheVariants.{Unreadable, Invalid, WriteOnly, Misaligned, OutOfLevels, NoRight, Privilege}
use Rattle.walker.specs.declared.Reason.TheVariants.{WrongTop, HighBits}

abbrev pub reason_name : Reason → List ℕ
reason_name Unreadable = codes "not readable"
reason_name Invalid = codes "not valid"
reason_name WriteOnly = codes "W without R"
reason_name Misaligned = codes "misaligned"
reason_name OutOfLevels = codes "out of levels"
reason_name NoRight = codes "no right"
reason_name Privilege = codes "privilege"
reason_name WrongTop = codes "wrong top"
reason_name HighBits = codes "high bits"
