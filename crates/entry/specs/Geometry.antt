-- How many entries and sets a configuration gives.
use Rattle.std.specs.Prelude.{ℕ, zero, suc, ◌+◌, ◌-◌, ◌*◌, ◌/◌, max, cond, ltb}
use Rattle.entry.specs.declared.TlbConfig.{TlbConfig}
use Rattle.entry.specs.declared.ReplacementPolicy.TheVariants.{Lru}

-- the default: 32 entries, 4 ways, Lru, latency 1, penalty 20
abbrev pub default_config : TlbConfig
default_config = record {
  entry_count = 32;
  associativity = 4;
  replacement = Lru;
  hit_latency = 1;
  miss_penalty = 20;
}

-- p doubled until it is at least n, at most k times
unfoldable pub pow_up : ℕ → ℕ → ℕ → ℕ
pow_up zero p n = p
pow_up (suc k) p n = cond (ltb p n) (pow_up k (p * 2) n) p

-- "Ways are at least 1."
abbrev pub ways_for : ℕ → ℕ
ways_for ways = max 1 ways

-- "Entries are the configured count, at least 1, raised to a power of two, to at least the ways, then to a multiple of the ways."
unfoldable pub entries_for : ℕ → ℕ → ℕ
entries_for count ways =
    (max (pow_up 16 1 (max 1 count)) (ways_for ways) + (ways_for ways - 1)) / ways_for ways * ways_for ways

-- "Sets = entries / ways."
unfoldable pub sets_for : ℕ → ℕ → ℕ
sets_for count ways = entries_for count ways / ways_for ways
