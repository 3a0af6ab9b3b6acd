-- An answer and the state that a call leaves in what it was lent, as one value: so a call on a lent state says both by one equation, with the
-- definition of the same call by value. "The simulator's host keeps one MMU for the session and lends it to each call."
use Rattle.std.specs.Prelude.{Result, ⊤}
use Rattle.scheme.specs.declared.refusal.Refusal.{Refusal}
use Rattle.state.specs.declared.Mmu.{Mmu}
use Rattle.access.specs.declared.Answer.{Answer}
use Rattle.access.specs.declared.Served.{Served}
use Rattle.mmu.specs.declared.Kept.{Kept}

abbrev pub kept : Result ⊤ Refusal → Mmu → Kept
kept r m = record { said = r; mmu = m }

abbrev pub served : Answer → Mmu → Served
served r m = record { said = r; mmu = m }
