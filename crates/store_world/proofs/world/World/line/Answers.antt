use Rattle.std.proofs.Common.{rules, ◌≡◌, refl, sym, ap, false, Some, None, Ok, Err}
use Rattle.validator.specs.Desk.{desk}
use Rattle.store_world.specs.declared.open_store.OpenStore.{OpenStore}
use Rattle.store_world.specs.Standing.{OpenWorld, StandsOver}
use Rattle.store_world.specs.Parts.{alone, no_store}
use Rattle.store_world.proofs.Analysing.{sound_where}
use Rattle.store_world.proofs.Stopped.{stops_open, stops_none, stays_open, stays_sound_open, bytes_stay, bytes_stop}
use Rattle.store_world.proofs.world.World.line.Goals as goal

-- ---- over a store

pub returns-in-Ok-clause-told : goal.returns-in-Ok-clause-told
returns-in-Ok-clause-told g c =
    let S = g.D.Disk.state in
    let N = g.N.Notary.state in
    let is : c.args.self.now.opened ≡ Some c.in-Some.open = search rules in
    let own : c.args.self.now.id ≡ c.in-Some.open.store.header.id = search rules in
    let young : c.args.self.now.is_old ≡ false = search rules in
    let under_way = ap (λ (x : OpenWorld). x.auditing) (sym c.self.view_is) in
    let later_own : c.self.inside.id ≡ c.answer_with_store.new.store.header.id = search rules in
    let later_young : c.self.inside.is_old ≡ false = search rules in
    let after : OpenStore = record { store = c.answer_with_store.new.store; sessions = c.answer_with_store.new.sessions } in
    stays_open c.args.line.now c.args.now (S c.args.disk.now) (S c.answer_with_store.new.disk) (N c.args.notary.now) (N c.answer_with_store.new.notary) (Ok c.in-Ok.answered)
    c.in-Some.open after c.self.inside.auditor c.answer_with_store.new.auditor c.args.self.now
    (record { id = c.self.inside.id; opened = Some after; is_old = c.self.inside.is_old; auditing = c.answer_with_store.new.auditor })
    (record { opened = is; own = own; age = young; audit = under_way }) (record { opened = refl; own = later_own; age = later_young; audit = refl }) c.in-Ok.ensures.told

pub returns-in-Ok-clause-bytes : goal.returns-in-Ok-clause-bytes
returns-in-Ok-clause-bytes g c =
    let S = g.D.Disk.state in
    let N = g.N.Notary.state in
    let own : c.args.self.now.id ≡ c.in-Some.open.store.header.id = search rules in
    let under_way = ap (λ (x : OpenWorld). x.auditing) (sym c.self.view_is) in
    bytes_stay c.args.line.now c.args.self.now.id c.in-Some.open.store.header.id c.args.now c.args.self.now.auditing c.self.inside.auditor c.answer_with_store.new.auditor (Ok c.in-Ok.answered)
    (desk (S c.args.disk.now) (N c.args.notary.now)) (desk (S c.answer_with_store.new.disk) (N c.answer_with_store.new.notary)) own under_way c.in-Ok.ensures.bytes

pub returns-in-Ok-clause-sound : goal.returns-in-Ok-clause-sound
returns-in-Ok-clause-sound g c =
    let S = g.D.Disk.state in
    let N = g.N.Notary.state in
    let is : c.args.self.now.opened ≡ Some c.in-Some.open = search rules in
    let own : c.args.self.now.id ≡ c.in-Some.open.store.header.id = search rules in
    let young : c.args.self.now.is_old ≡ false = search rules in
    let under_way = ap (λ (x : OpenWorld). x.auditing) (sym c.self.view_is) in
    stays_sound_open c.in-Some.open c.self.inside.auditor c.args.self.now (desk (S c.args.disk.now) (N c.args.notary.now)) (desk (S c.answer_with_store.new.disk) (N c.answer_with_store.new.notary))
    (record { opened = is; own = own; age = young; audit = under_way }) c.answer_with_store.ensures.sound

pub returns-in-Err-clause-told : goal.returns-in-Err-clause-told
returns-in-Err-clause-told g c =
    let S = g.D.Disk.state in
    let N = g.N.Notary.state in
    let is : c.args.self.now.opened ≡ Some c.in-Some.open = search rules in
    let own : c.args.self.now.id ≡ c.in-Some.open.store.header.id = search rules in
    let young : c.args.self.now.is_old ≡ false = search rules in
    let under_way = ap (λ (x : OpenWorld). x.auditing) (sym c.self.view_is) in
    stops_open c.args.line.now c.args.now (S c.args.disk.now) (S c.answer_with_store.new.disk) (N c.args.notary.now) (N c.answer_with_store.new.notary) c.in-Err.fail c.in-Some.open c.self.inside.auditor
    (alone c.answer_with_store.new.sessions c.answer_with_store.new.store c.answer_with_store.new.auditor) c.args.self.now c.begin_audit.new.self (record { opened = is; own = own; age = young; audit = under_way }) c.in-Err.ensures.told

pub returns-in-Err-clause-bytes : goal.returns-in-Err-clause-bytes
returns-in-Err-clause-bytes g c =
    let S = g.D.Disk.state in
    let N = g.N.Notary.state in
    let own : c.args.self.now.id ≡ c.in-Some.open.store.header.id = search rules in
    let under_way = ap (λ (x : OpenWorld). x.auditing) (sym c.self.view_is) in
    bytes_stop c.args.line.now c.args.self.now.id c.in-Some.open.store.header.id c.args.now c.args.self.now.auditing c.self.inside.auditor c.answer_with_store.new.auditor c.begin_audit.new.self.auditing (Err c.in-Err.fail)
    (desk (S c.args.disk.now) (N c.args.notary.now)) (desk (S c.answer_with_store.new.disk) (N c.answer_with_store.new.notary)) refl own under_way (ap (λ (x : OpenWorld). x.auditing) c.begin_audit.ensures.change) c.in-Err.ensures.bytes

pub returns-in-Err-clause-sound : goal.returns-in-Err-clause-sound
returns-in-Err-clause-sound g c =
    let S = g.D.Disk.state in
    let N = g.N.Notary.state in
    let is : c.args.self.now.opened ≡ Some c.in-Some.open = search rules in
    let own : c.args.self.now.id ≡ c.in-Some.open.store.header.id = search rules in
    let young : c.args.self.now.is_old ≡ false = search rules in
    let under_way = ap (λ (x : OpenWorld). x.auditing) (sym c.self.view_is) in
    stays_sound_open c.in-Some.open c.self.inside.auditor c.args.self.now (desk (S c.args.disk.now) (N c.args.notary.now)) (desk (S c.answer_with_store.new.disk) (N c.answer_with_store.new.notary))
    (record { opened = is; own = own; age = young; audit = under_way }) c.answer_with_store.ensures.sound

-- ---- without a store

pub returns-then-is_err-clause-told : goal.returns-then-is_err-clause-told
returns-then-is_err-clause-told g c =
    let S = g.D.Disk.state in
    let N = g.N.Notary.state in
    let none : c.args.self.now.opened ≡ None = search rules in
    stops_none c.args.line.now c.args.now (S c.args.disk.now) (S c.answer_without_store-result.new.disk) (N c.args.notary.now) (N c.answer_without_store-result.new.notary) c.answer_without_store-result.result
    (sym c.if-is_err.ensures.value) c.self.inside.id c.self.inside.is_old c.self.inside.auditor (no_store c.self.inside.id c.self.inside.is_old c.answer_without_store-result.new.auditor) c.args.self.now c.begin_audit-then-is_err.new.self
    (record {
      opened = none;
      own = ap (λ (x : OpenWorld). x.id) (sym c.self.view_is);
      age = ap (λ (x : OpenWorld). x.is_old) (sym c.self.view_is);
      audit = ap (λ (x : OpenWorld). x.auditing) (sym c.self.view_is);
    })
    c.answer_without_store-result.ensures.told

pub returns-then-is_err-clause-bytes : goal.returns-then-is_err-clause-bytes
returns-then-is_err-clause-bytes g c =
    let S = g.D.Disk.state in
    let N = g.N.Notary.state in
    let own = ap (λ (x : OpenWorld). x.id) (sym c.self.view_is) in
    let under_way = ap (λ (x : OpenWorld). x.auditing) (sym c.self.view_is) in
    bytes_stop c.args.line.now c.args.self.now.id c.self.inside.id c.args.now c.args.self.now.auditing c.self.inside.auditor c.answer_without_store-result.new.auditor c.begin_audit-then-is_err.new.self.auditing c.answer_without_store-result.result
    (desk (S c.args.disk.now) (N c.args.notary.now)) (desk (S c.answer_without_store-result.new.disk) (N c.answer_without_store-result.new.notary)) (sym c.if-is_err.ensures.value) own under_way
    (ap (λ (x : OpenWorld). x.auditing) c.begin_audit-then-is_err.ensures.change) c.answer_without_store-result.ensures.bytes

pub returns-then-is_err-clause-sound : goal.returns-then-is_err-clause-sound
returns-then-is_err-clause-sound g c = sound_where _ (StandsOver c.args.self.now) (λ b stands. tt) (g.D.Disk.state c.args.disk.now) (g.D.Disk.state c.answer_without_store-result.new.disk) (g.N.Notary.state c.args.notary.now) (g.N.Notary.state c.answer_without_store-result.new.notary) c.answer_without_store-result.ensures.sound

pub returns-else-is_err-clause-sound : goal.returns-else-is_err-clause-sound
returns-else-is_err-clause-sound g c = sound_where _ (StandsOver c.args.self.now) (λ b stands. tt) (g.D.Disk.state c.args.disk.now) (g.D.Disk.state c.answer_without_store-result.new.disk) (g.N.Notary.state c.args.notary.now) (g.N.Notary.state c.answer_without_store-result.new.notary) c.answer_without_store-result.ensures.sound
