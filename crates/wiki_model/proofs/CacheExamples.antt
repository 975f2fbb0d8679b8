-- The set rule, the hold-off of a key, and what is fresh and shown, at their edges.
-- Each value is computed by the prover.
use Rattle.std.specs.Prelude.{ℕ, ◌≡◌, false, true, Some, None, refl}
use Rattle.wiki_model.specs.declared.SetRule.TheVariants as rule
use Rattle.wiki_model.specs.declared.Stale.TheVariants as stale
use Rattle.wiki_model.specs.declared.Cause.TheVariants as cause
use Rattle.wiki_model.specs.Limits.{default_bounds, hold_off}
use Rattle.wiki_model.specs.HoldOff.{interim_age, hit_age}
use Rattle.wiki_model.specs.Cache.{set_rule, Cached, Ask, Hit, Interim, Missed, is_held, staleness, passes, found}

-- the set rule's table, as (lag, age, pending)
rule_edge : (set_rule 0 7000 false 7000 ≡ rule.Whole) × (set_rule 7000 0 false 7000 ≡ rule.Whole) × (set_rule 4000 3001 false 7000 ≡ rule.NoMedium)
    × (set_rule 7001 0 false 7000 ≡ rule.Lagged) × (set_rule 0 7001 false 7000 ≡ rule.NoOld) × (set_rule 7001 7001 false 7000 ≡ rule.NoOld) × (set_rule 0 0 true 7000 ≡ rule.NoPending)
rule_edge = (refl, refl, refl, refl, refl, refl, refl)

-- the edges of a hold-off: a floor and a check of 5; no check
held : (is_held 5 0 4 ≡ true) × (is_held 5 0 5 ≡ false) × (is_held 0 5 5 ≡ true) × (is_held 0 5 6 ≡ false) × (is_held 0 0 0 ≡ false)
held = (refl, refl, refl, refl, refl)

-- a value set at 100, of the entry 3, that lives for 50
abbrev value : Cached ℕ
value = record { page = 0; upto = 3; stamp = 0; set_at = 100; life = 50; lagged = false; version = 1 }

abbrev asked : (epoch version need : ℕ) → Ask
asked epoch version need = record { epoch = epoch; version = version; need = need }

still_fresh : (staleness value 149 100 99 (asked 100 1 3) ≡ None) × (staleness value 149 100 0 (asked 100 1 3) ≡ None)
still_fresh = (refl, refl)

not_fresh : (staleness value 150 101 100 (asked 101 2 4) ≡ Some (stale.Purged 101)) × (staleness value 150 100 100 (asked 101 2 4) ≡ Some (stale.Checked 100))
    × (staleness value 150 100 99 (asked 101 2 4) ≡ Some (stale.Expired 150)) × (staleness value 149 100 99 (asked 101 2 4) ≡ Some stale.Epoch)
    × (staleness value 149 100 99 (asked 100 2 4) ≡ Some stale.Version) × (staleness value 149 100 99 (asked 100 1 4) ≡ Some (stale.Position 3))
not_fresh = (refl, refl, refl, refl, refl, refl)

-- an interim value while a floor or a check of 110 stands, the hold-off being 10
shown_held : (passes 10 110 110 2099 (asked 100 1 3) value ≡ true) × (passes 10 111 110 2099 (asked 100 1 3) value ≡ false) × (passes 10 110 111 2099 (asked 100 1 3) value ≡ false)
    × (passes 10 110 110 2100 (asked 100 1 3) value ≡ false) × (passes 10 110 110 2099 (asked 101 1 3) value ≡ false) × (passes 10 110 110 2099 (asked 100 1 4) value ≡ false)
shown_held = (refl, refl, refl, refl, refl, refl)

not_this_version : passes 10 110 110 2099 (asked 100 2 3) value ≡ false
not_this_version = refl

-- what a look finds: while the key is held only an interim value, a floor before a check; else the main one
finds : (found 10 110 0 109 (asked 0 1 0) (Some value) None ≡ Missed (cause.Purged 110)) × (found 10 0 110 110 (asked 0 1 0) (Some value) None ≡ Missed (cause.Checked 110))
    × (found {P = ℕ} 10 111 110 110 (asked 0 1 0) None None ≡ Missed (cause.Purged 111)) × (found 10 110 110 109 (asked 0 1 0) None (Some value) ≡ Interim value)
    × (found 10 100 99 110 (asked 0 1 0) (Some value) None ≡ Hit value) × (found 10 100 99 110 (asked 0 1 0) None (Some value) ≡ Missed cause.Absent)
finds = (refl, refl, refl, refl, refl, refl)

-- the default bounds, and what follows from them
bounds : (hold_off default_bounds ≡ 11_000) × (interim_age default_bounds ≡ 12_000) × (hit_age default_bounds ≡ 86_410_000)
bounds = (refl, refl, refl)
