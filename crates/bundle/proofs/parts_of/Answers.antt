-- `parts_of`: a good file has its bodies where the lengths say (`Fits`).
use native.Mathlib.Omega.{arith}
use mathlib.Core.Path.{◌∙◌}
use Rattle.layout.proofs.Fits.{Fits, good_fits}
use Rattle.bundle.specs.Parts.{parts_of}
use Rattle.bundle.proofs.parts_of.Goals.{Start}
use Rattle.bundle.proofs.parts_of.Goals as goal

fits : (c : Start) → Fits c.args.file.now
fits c = good_fits _ c.requires

pub config_at-config-requires : goal.config_at-config-requires
config_at-config-requires c = omega (arith, (fits (goal.at.config_at-config-requires c).Start).whole)

pub settings_at-settings-requires : goal.settings_at-settings-requires
settings_at-settings-requires c = omega (arith, (fits (goal.at.settings_at-settings-requires c).Start).whole)

pub len_at-map_len-requires : goal.len_at-map_len-requires
len_at-map_len-requires c = omega (arith, (fits (goal.at.len_at-map_len-requires c).Start).whole)

pub map_at-map-requires : goal.map_at-map-requires
map_at-map-requires c =
    λ ne. let f = fits (goal.at.map_at-map-requires c).Start in
    omega (arith, f.whole, f.map_len_fits (λ z. ne (c.len_at-map_len.ensures.0 ∙ z)))

pub len_at-ram_len-requires : goal.len_at-ram_len-requires
len_at-ram_len-requires c = omega (arith, (fits (goal.at.len_at-ram_len-requires c).Start).whole)

pub len_at-count-requires : goal.len_at-count-requires
len_at-count-requires c = omega (arith, (fits (goal.at.len_at-count-requires c).Start).whole)

pub returns : goal.returns
unfolding parts_of
returns c =
    rw (
      c.config_at-config.ensures,
      c.settings_at-settings.ensures,
      c.map_at-map.ensures,
      c.len_at-map_len.ensures.0,
      c.len_at-ram_len.ensures.0,
      c.len_at-count.ensures.0,
    )
