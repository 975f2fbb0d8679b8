-- Steps that change only a request, the keeper's count or the markup.
use Rattle.std.proofs.Common.{◌≡◌, ℕ, zero, suc, ◌≤◌, List, [], map, Option, Some, None, sym, ap, subst, ◌∙◌, arith, append-nil}
use Rattle.wiki_model.specs.declared.Region.{Region}
use Rattle.wiki_model.specs.declared.Region.TheVariants.{Home, West}
use Rattle.wiki_model.specs.Bytes.{Bytes}
use Rattle.wiki_model.specs.History.{Entry}
use Rattle.wiki_model.specs.Cache.{CacheMap}
use Rattle.wiki_model.specs.World as world
use Rattle.wiki_model.specs.World.{World, Setting, site, message_at}
use Rattle.purge_relay.specs.LedgerRow.{receipt_at}
use Rattle.purge_relay.specs.Ledger.{LedgerState, row_at}
use Rattle.purge_relay.specs.AsModel.{row_message}
use Rattle.farm_steps.specs.RequestMap.{Entries}
use Rattle.farm_core.specs.FarmParts.{FarmParts}
use Rattle.farm_core.specs.Agreement.{Agrees, receipt_in, last_beat_in}
use Rattle.farm_core.proofs.Following.{Follows}
use Rattle.farm_core.proofs.Standing.{IsStill, stands-still}
use Rattle.farm_core.proofs.Points.{AllAgree}

-- w is v, but for the requests and the count of faults
pub record IsQuiet (v w : World) : Type 0 where
  pub history : w.history ≡ v.history
  pub setting : w.setting ≡ v.setting
  pub messages : w.messages ≡ v.messages
  pub home : w.home ≡ v.home
  pub west : w.west ≡ v.west
  pub markup : w.markup ≡ v.markup

pub quiet-follows : (v w : World) → IsQuiet v w → Follows v w
quiet-follows v w q = record {
  more = [];
  history = q.history ∙ sym (append-nil v.history);
  setting = q.setting;
  issued = λ purge t at i. (i.0, message purge i.0 i.1, i.2);
}
  where
    message : (n : ℕ) (m : world.Message) → message_at v n ≡ Some m → message_at w n ≡ Some m
    message n m e = by n e
      where
        by : (k : ℕ) → message_at v k ≡ Some m → message_at w k ≡ Some m
        by zero e = e
        by (suc k) e = ap (λ (ms : List world.Message). Rattle.std.specs.Prelude.slice_get ms k) q.messages ∙ e

quiet-still : (v w : World) (r : Region) → IsQuiet v w → IsStill v w r
quiet-still v w Home q = record { history = q.history; setting = q.setting; markup = q.markup; up = let e = ap (λ (s : world.Site). s.moment) q.home in omega (arith, e); applied = ap (λ (s : world.Site). s.applied) q.home; heard = ap (λ (s : world.Site). s.heard) q.home; events = ap (λ (s : world.Site). s.events) q.home }
quiet-still v w West q = record { history = q.history; setting = q.setting; markup = q.markup; up = let e = ap (λ (s : world.Site). s.moment) q.west in omega (arith, e); applied = ap (λ (s : world.Site). s.applied) q.west; heard = ap (λ (s : world.Site). s.heard) q.west; events = ap (λ (s : world.Site). s.events) q.west }

pub agrees-quiet : {K S : Type 0} (content : K → Option (List Entry)) (faults : K → ℕ) (cache_of : S → CacheMap Bytes) (farm : FarmParts K S) (keeper : K) (requests : Entries) (v w : World)
    → IsQuiet v w → content keeper ≡ content farm.keeper → w.faults ≤ faults keeper → AllAgree w requests
    → Agrees content faults cache_of farm v → Agrees content faults cache_of (record farm { keeper = keeper; requests = requests }) w
agrees-quiet content faults cache_of farm keeper requests v w q told counted all a = record {
  plan = subst (λ (s : Setting). Rattle.region_state.specs.AsModel.IsPlanOf s farm.plan) (sym q.setting) a.plan;
  opened = let h = a.opened in subst (λ (s : Setting). s.opened ≤ Rattle.std.specs.Prelude.length w.history) (sym q.setting) (subst (λ (h : List Entry). v.setting.opened ≤ Rattle.std.specs.Prelude.length h) (sym q.history) h);
  history = told ∙ a.history ∙ ap Some (sym q.history);
  counted = counted;
  messages = a.messages ∙ sym q.messages;
  receipts = receipts;
  requests = all;
  home_moment = a.home_moment ∙ ap (λ (s : world.Site). s.moment) (sym q.home);
  west_moment = a.west_moment ∙ ap (λ (s : world.Site). s.moment) (sym q.west);
  beat = a.beat ∙ ap (λ (h : List Entry). last_beat_in (Rattle.std.specs.Prelude.drop v.setting.opened h) None) (sym q.history) ∙ ap (λ (s : Setting). last_beat_in (Rattle.std.specs.Prelude.drop s.opened w.history) None) (sym q.setting);
  home = stands-still cache_of farm.home v w Home (quiet-still v w Home q) a.home;
  west = stands-still cache_of farm.west v w West (quiet-still v w West q) a.west;
}
  where
    receipts : (r : Region) (purge : ℕ) → receipt_at r (row_at farm.ledger.rows purge) ≡ receipt_in (site r w).events purge
    receipts Home purge = a.receipts Home purge ∙ ap (λ (s : world.Site). receipt_in s.events purge) (sym q.home)
    receipts West purge = a.receipts West purge ∙ ap (λ (s : world.Site). receipt_in s.events purge) (sym q.west)

-- only the rows of the ledger count
pub agrees-ledger : {K S : Type 0} (content : K → Option (List Entry)) (faults : K → ℕ) (cache_of : S → CacheMap Bytes) (farm : FarmParts K S) (ledger_now : LedgerState) (w : World) → ledger_now.rows ≡ farm.ledger.rows
    → Agrees content faults cache_of farm w → Agrees content faults cache_of (record farm { ledger = ledger_now }) w
agrees-ledger content faults cache_of farm ledger_now w same a = record {
  plan = a.plan;
  opened = a.opened;
  history = a.history;
  counted = a.counted;
  messages = ap (map row_message) same ∙ a.messages;
  receipts = λ r n. ap (λ rows. receipt_at r (row_at rows n)) same ∙ a.receipts r n;
  requests = a.requests;
  home_moment = a.home_moment;
  west_moment = a.west_moment;
  beat = a.beat;
  home = a.home;
  west = a.west;
}
