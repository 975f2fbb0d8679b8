-- What a plan says determines the setting of its farm, in whatever way titles go together.
use Rattle.std.proofs.Common.{◌≡◌, ℕ, Bool, Ok, refl, subst}
use Rattle.std.specs.Prelude.{Result, Err, IfOk}
use Rattle.wiki_model.specs.Bytes.{Bytes}
use Rattle.wiki_model.specs.declared.Region.{Region}
use Rattle.wiki_model.specs.Titles.{Title}
use Rattle.region_state.specs.AsModel.{IsPlanOf}
use Rattle.region_state.specs.declared.plan.FarmPlan.{FarmPlan}
use Rattle.wiki_layout.specs.AsModel.{plan_of}
use Rattle.wiki_layout.specs.Layout.{layout_of, setting_of}
use Rattle.wiki_layout.specs.ReadLayout.{Reads, IsPlan}
use Rattle.wiki_layout.specs.declared.layout.LayoutFault.{LayoutFault}

own_setting : (together : Region → Title → Title → Bool) (opened : ℕ) (plan : FarmPlan)
    → IsPlanOf (setting_of together opened (plan_of plan)) plan
own_setting together opened plan = record { home = refl; west = refl; epoch = refl; workers = refl; bounds = refl }

-- what is read of the text is the plan of the text's settings
pub reads_settings : (text : Bytes) (read : Result FarmPlan LayoutFault) → Reads read (layout_of text)
    → IfOk read (λ plan. IsPlan text plan)
reads_settings text (Err fault) reads = tt
reads_settings text (Ok plan) reads = λ together opened said is.
    let same : plan_of plan ≡ said = cc in
    subst (λ s. IsPlanOf (setting_of together opened s) plan) same (own_setting together opened plan)
