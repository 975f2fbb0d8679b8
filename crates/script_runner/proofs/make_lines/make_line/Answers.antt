use Rattle.std.proofs.Common.{ap, refl, false, None, option_map}
use Rattle.wiki_model.specs.Steps as step
use Rattle.region_state.specs.AsModel.{answer_of, asked_of}
use Rattle.farm_core.specs.RequestLife.{ArrivedEdit, BegunEdit, ArrivedView, WaitedView, LookedView, SnappedView, first_point, BeginsAt, CommitsAt, WaitsAt, LooksFrom, SnapsAt, StoresFrom}
use Rattle.drill_script.specs.AsModel.{line_of}
use Rattle.script_runner.proofs.Lines.{idle_line, leaves_line, moves_line, opens_line}
use Rattle.script_runner.proofs.make_lines.make_line.Goals as goal

pub returns-in-Farm : goal.returns-in-Farm
returns-in-Farm g c = idle_line g.K.Keeper.content g.K.Keeper.faults g.S.RegionStore.cache c.args.farm.now c.args.at _ _ (ap line_of c.in-Farm.is) refl

pub returns-in-Bounds : goal.returns-in-Bounds
returns-in-Bounds g c = idle_line g.K.Keeper.content g.K.Keeper.faults g.S.RegionStore.cache c.args.farm.now c.args.at _ _ (ap line_of c.in-Bounds.is) refl

pub returns-in-At : goal.returns-in-At
returns-in-At g c = idle_line g.K.Keeper.content g.K.Keeper.faults g.S.RegionStore.cache c.args.farm.now c.args.at _ _ (ap line_of c.in-At.is) refl

pub returns-in-Beat : goal.returns-in-Beat
returns-in-Beat g c = leaves_line g.K.Keeper.content g.K.Keeper.faults g.S.RegionStore.cache c.args.farm.now c.beat.new.self c.args.at _ _ (step.MakeBeat) (option_map answer_of c.beat.result) (ap line_of c.in-Beat.is) refl refl c.beat.ensures

pub returns-in-Apply : goal.returns-in-Apply
returns-in-Apply g c = leaves_line g.K.Keeper.content g.K.Keeper.faults g.S.RegionStore.cache c.args.farm.now c.apply.new.self c.args.at _ _ (step.Apply c.in-Apply.region c.in-Apply.replica c.in-Apply.count) (option_map answer_of c.apply.result) (ap line_of c.in-Apply.is) refl refl c.apply.ensures

pub returns-in-Arrive : goal.returns-in-Arrive
returns-in-Arrive g c = opens_line g.K.Keeper.content g.K.Keeper.faults g.S.RegionStore.cache c.args.farm.now c.arrive.new.self c.args.at _ c.in-Arrive.id (asked_of c.in-Arrive.asked) (first_point c.in-Arrive.asked) (option_map answer_of c.arrive.result) (ap line_of c.in-Arrive.is) c.arrive.ensures

pub returns-in-Begin : goal.returns-in-Begin
returns-in-Begin g c = moves_line g.K.Keeper.content g.K.Keeper.faults g.S.RegionStore.cache c.args.farm.now c.begin.new.self c.args.at _ _ (step.Begin c.in-Begin.id) (option_map answer_of c.begin.result) c.in-Begin.id ArrivedEdit BeginsAt (ap line_of c.in-Begin.is) refl refl (λ e. let never : ⊥ = cc in never) c.begin.ensures

pub returns-in-Commit : goal.returns-in-Commit
returns-in-Commit g c = moves_line g.K.Keeper.content g.K.Keeper.faults g.S.RegionStore.cache c.args.farm.now c.commit.new.self c.args.at _ _ (step.CommitEdit c.in-Commit.id) (option_map answer_of c.commit.result) c.in-Commit.id BegunEdit CommitsAt (ap line_of c.in-Commit.is) refl refl (λ e. let never : ⊥ = cc in never) c.commit.ensures

pub returns-in-Wait : goal.returns-in-Wait
returns-in-Wait g c = moves_line g.K.Keeper.content g.K.Keeper.faults g.S.RegionStore.cache c.args.farm.now c.wait.new.self c.args.at _ _ (step.Wait c.in-Wait.id false) (option_map answer_of c.wait.result) c.in-Wait.id ArrivedView (WaitsAt false) (ap line_of c.in-Wait.is) refl refl (λ e. let never : ⊥ = cc in never) c.wait.ensures

pub returns-in-Look : goal.returns-in-Look
returns-in-Look g c = moves_line g.K.Keeper.content g.K.Keeper.faults g.S.RegionStore.cache c.args.farm.now c.look.new.self c.args.at _ _ (step.Look c.in-Look.id) (option_map answer_of c.look.result) c.in-Look.id WaitedView LooksFrom (ap line_of c.in-Look.is) refl refl (λ e. let never : ⊥ = cc in never) c.look.ensures

pub returns-in-Snap : goal.returns-in-Snap
returns-in-Snap g c = moves_line g.K.Keeper.content g.K.Keeper.faults g.S.RegionStore.cache c.args.farm.now c.snap.new.self c.args.at _ _ (step.Snap c.in-Snap.id) (option_map answer_of c.snap.result) c.in-Snap.id LookedView SnapsAt (ap line_of c.in-Snap.is) refl refl (λ e. let never : ⊥ = cc in never) c.snap.ensures

pub returns-in-Store : goal.returns-in-Store
returns-in-Store g c = moves_line g.K.Keeper.content g.K.Keeper.faults g.S.RegionStore.cache c.args.farm.now c.store.new.self c.args.at _ _ (step.Store c.in-Store.id) (option_map answer_of c.store.result) c.in-Store.id SnappedView StoresFrom (ap line_of c.in-Store.is) refl refl (λ e. let never : ⊥ = cc in never) c.store.ensures

pub returns-in-Carry : goal.returns-in-Carry
returns-in-Carry g c = leaves_line g.K.Keeper.content g.K.Keeper.faults g.S.RegionStore.cache c.args.farm.now c.carry.new.self c.args.at _ _ (step.Carry c.in-Carry.number None) (option_map answer_of c.carry.result) (ap line_of c.in-Carry.is) refl refl c.carry.ensures

pub returns-in-Drop : goal.returns-in-Drop
returns-in-Drop g c = leaves_line g.K.Keeper.content g.K.Keeper.faults g.S.RegionStore.cache c.args.farm.now c.drop_message.new.self c.args.at _ _ (step.Drop c.in-Drop.number) (option_map answer_of c.drop_message.result) (ap line_of c.in-Drop.is) refl refl c.drop_message.ensures

pub returns-in-Markup : goal.returns-in-Markup
returns-in-Markup g c = leaves_line g.K.Keeper.content g.K.Keeper.faults g.S.RegionStore.cache c.args.farm.now c.set_markup.new.self c.args.at _ _ (step.SetMarkup c.in-Markup.markup) None (ap line_of c.in-Markup.is) refl refl c.set_markup.ensures

pub returns : goal.returns
returns g c = idle_line g.K.Keeper.content g.K.Keeper.faults g.S.RegionStore.cache c.args.farm.now c.args.at _ _ (ap line_of c.in-End.is) refl
