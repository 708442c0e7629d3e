-- What a drill holds stands for its scene as long as its bytes, lists, sessions and audit do.
use Rattle.std.proofs.Common.{◌≡◌, ℕ, false, List, [], Option, Some, None, Result, Ok, Err, OnOk, IfOk, sym, subst, ap, ◌∙◌, refl}
use Rattle.std.proofs.Math.Path.{fun_ext}
use Rattle.std.specs.Prelude.{is_some}
use Rattle.notary_link.specs.declared.mark.Mark.{Mark}
use Rattle.notary_link.specs.Batches.{Batch}
use Rattle.notary_link.specs.Notary.{State, Lists, Keeps}
use Rattle.notary_link.specs.declared.memory.MemNotary.{MemNotary}
use Rattle.notary_link.specs.declared.notary.NotaryLimits.{NotaryLimits}
use Rattle.notary_link.specs.Calls.{lists_of}
use Rattle.notary_link.specs.Memory as notary_memory
use Rattle.disk_model.specs.declared.memory.MemDisk.{MemDisk}
use Rattle.disk_model.specs.Memory as disk_memory
use Rattle.std.proofs.lemmas.Option.{same_Some}
use Rattle.session_model.specs.Service.{Session}
use Rattle.store_world.specs.Standing.{OpenWorld}
use Rattle.timeline_model.specs.Scene as scenes
use Rattle.timeline_model.specs.Scene.{Scene, nothing_yet, entered_anew, world_of}
use Rattle.drill_core.specs.declared.machine.Crash.{Crash}
use Rattle.drill_core.specs.declared.machine.Drill.{Drill}
use Rattle.drill_core.specs.Drills.{crash_of, bare_of, StandsUnder, NoneFails, IsAt}

-- lists that keep the same under each id are the same
pub same_lists : (old new : Lists) → Keeps old new → new ≡ old
same_lists old new keeps =
    ap (λ (b : ℕ → List Batch). record { batches = b; marks = new.marks }) (fun_ext keeps.batches)
    ∙ ap (λ (m : ℕ → List Mark). record { batches = old.batches; marks = m }) (fun_ext keeps.marks)

-- ---- a result

module _ {A E : Type 0} where
  pub on_ok : (r : Result A E) (P : Type 0) → P → OnOk r P
  on_ok (Ok a) P p = p
  on_ok (Err e) P p = tt

  pub ok_map : (r : Result A E) (P Q : A → Type 0) → IfOk r P → ((a : A) → P a → Q a) → IfOk r Q
  ok_map (Ok a) P Q p f = f a p
  ok_map (Err e) P Q p f = tt

  pub ok_two : (r : Result A E) (P : Type 0) (R S : A → Type 0) → OnOk r P → IfOk r R → ((a : A) → P → R a → S a) → IfOk r S
  ok_two (Ok a) P R S p x f = f a p x
  ok_two (Err e) P R S p x f = tt

  pub ok_three : (r : Result A E) (P Q : Type 0) (R S : A → Type 0) → OnOk r P → OnOk r Q → IfOk r R → ((a : A) → P → Q → R a → S a) → IfOk r S
  ok_three (Ok a) P Q R S p q x f = f a p q x
  ok_three (Err e) P Q R S p q x f = tt

-- ---- an id

pub none_of : (o : Option ℕ) → is_some o ≡ false → o ≡ None
none_of None none = refl
none_of (Some id) none = absurd cc

-- ---- the scene of a drill

-- what goes on over its store: its sessions, and an audit
pub record Begun : Type 0 where
  pub sessions : ℕ → Option Session
  pub audited : ℕ

-- with these
abbrev pub scene_of : Drill → Begun → Scene
scene_of d begun = record (bare_of d) { sessions = begun.sessions; audited = begun.audited }

-- a drill stands for no other
pub by_scene : (t : Scene) (d : Drill) (P : Scene → Type 0) → entered_anew t ≡ bare_of d → StandsUnder t.id t d.world → ((begun : Begun) → StandsUnder d.id (scene_of d begun) d.world → P (scene_of d begun)) → P t
by_scene t d P fields world holds =
    let begun : Begun = record { sessions = t.sessions; audited = t.audited } in
    let same : t ≡ scene_of d begun = ap (λ (b : Scene). record b { sessions = t.sessions; audited = t.audited }) fields in
    subst P (sym same) (holds begun (subst (λ (s : Scene). StandsUnder s.id s d.world) same world))

-- ---- what a drill sets

-- with another clock and another pending crash
abbrev pub with_rest : Drill → ℕ → Option Crash → Drill
with_rest d clock crash = record { alloc = d.alloc; id = d.id; world = d.world; disk = d.disk; notary = d.notary; clock = clock; crash = crash }

rest_stands : (id : Option ℕ) (t : Scene) (held : OpenWorld) (clock : ℕ) (crash : Option scenes.Crash) → StandsUnder id t held → StandsUnder id (record t { clock = clock; crash = crash }) held
unfolding world_of
rest_stands None t held clock crash stands = tt
rest_stands (Some id) t held clock crash stands = stands

-- no call fails
pub same_plans : (d : Drill) (id : Option ℕ) (clock : ℕ) (crash : Option Crash) → NoneFails d → NoneFails (record { alloc = d.alloc; id = id; world = d.world; disk = d.disk; notary = d.notary; clock = clock; crash = crash })
same_plans d id clock crash none = record { disk = none.disk; disk_sure = none.disk_sure; notary = none.notary; notary_sure = none.notary_sure }

module _ (t : Scene) (d : Drill) (at : IsAt t d) where
  pub at_clock : (clock : ℕ) → IsAt (record t { clock = clock }) (with_rest d clock d.crash)
  at_clock clock = record {
    left = record { fields = ap (λ (b : Scene). record b { clock = clock }) at.left.fields; none_fails = same_plans d d.id clock d.crash at.left.none_fails };
    world = rest_stands t.id t d.world clock t.crash at.world;
  }

  pub at_crash : (crash : Option Crash) → IsAt (record t { crash = crash_of crash }) (with_rest d d.clock crash)
  at_crash crash = record {
    left = record { fields = ap (λ (b : Scene). record b { crash = crash_of crash }) at.left.fields; none_fails = same_plans d d.id d.clock crash at.left.none_fails };
    world = rest_stands t.id t d.world t.clock (crash_of crash) at.world;
  }

-- ---- at the start

pub at_start : (alloc : _) (limits : NotaryLimits) (world : OpenWorld) (disk : MemDisk) (notary : MemNotary) → disk_memory.IsFresh [] 0 disk → notary_memory.IsFresh limits notary
    → IsAt (nothing_yet limits) (record { alloc = alloc; id = None; world = world; disk = disk; notary = notary; clock = 0; crash = None })
at_start alloc limits world disk notary fresh empty = record {
  left = record {
    fields =
        ap (λ (b : List ℕ). record (nothing_yet limits) { bytes = b }) (sym (same_Some disk.bytes.items [] fresh.reads))
        ∙ ap (λ (l : Lists). record (nothing_yet limits) { bytes = disk.bytes.items; lists = l }) (sym (same_Some (lists_of notary.made.items) (lists_of []) (ap (λ (s : State). s.lists) empty.state_is)))
        ∙ ap (λ (l : NotaryLimits). record (nothing_yet limits) { bytes = disk.bytes.items; lists = lists_of notary.made.items; limits = l }) (sym (ap (λ (s : State). s.limits) empty.state_is));
    none_fails = record { disk = fresh.no_failing_changes; disk_sure = fresh.sure; notary = ap (λ (s : State). s.plan) empty.state_is; notary_sure = ap (λ (s : State). s.sure) empty.state_is };
  };
  world = tt;
}
