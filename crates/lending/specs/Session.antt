-- What a session answers and leaves: each call finds the state that the one before it left. "The simulator's host keeps one MMU for the
-- session and lends it to each call."
use Rattle.std.specs.Prelude.{ℕ, List}
use Rattle.scheme.specs.declared.PagingScheme.{PagingScheme}
use Rattle.walk.specs.declared.Access.{Access}
use Rattle.entry.specs.declared.TlbConfig.{TlbConfig}
use Rattle.state.specs.declared.Mmu.{Mmu}
use Rattle.access.specs.declared.Served.{Served}
use Rattle.mmu.specs.declared.Kept.{Kept}
use Rattle.mmu.specs.Calls.{translate_of, flush_vaddr_of, flush_of, set_scheme_of, reconfigure_of}
use Rattle.lending.specs.declared.Session.{Session}

-- from what each call leaves, what the next one does
abbrev pub chained : Served → (Mmu → Kept) → (Mmu → Kept) → (Mmu → Kept) → (Mmu → Kept) → Session
chained a f g h k = record {
  translated = a;
  dropped = f a.mmu;
  flushed = g (f a.mmu).mmu;
  adopted = h (g (f a.mmu).mmu).mmu;
  restarted = k (h (g (f a.mmu).mmu).mmu).mmu;
}

unfoldable pub session_of : Mmu → Access → ℕ → PagingScheme → TlbConfig → List ℕ → Session
session_of m q va s c ram = chained (translate_of m q ram) (λ n. flush_vaddr_of n va) flush_of (λ n. set_scheme_of n s) (λ n. reconfigure_of n c)
