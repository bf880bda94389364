use Rattle.std.proofs.Common.{arith, ◌≡◌, ◌+◌, ◌-◌, ◌^◌, ◌≤◌, length, slice_index, refl, sym, ap, ◌∙◌, inl, inr}
use Rattle.std.proofs.lemmas.List.{get_or_default}
use Rattle.bl_flow.proofs.HalfCapacities.{seen_count, seen_through, seen_behind, seen_back, through_forth, behind_forth, through_back, behind_back, still_carried}
use Rattle.bl_flow.proofs.capacities.Capacities.let_flow.Goals as goal
use Rattle.bl_flow.proofs.capacities.Capacities.let_flow.Goals.{Else-link-len, Else-forth-len}

pub overflow_add-index_mut : goal.overflow_add-index_mut
overflow_add-index_mut c =
    let half = c.len-half.ensures in let below = c.if-link-half.true in
    let fits = c.requires.fits (length c.self.inside.carried.items) (c.args.link + length c.self.inside.carried.items) (sym (seen_count c.self.inside.through.items c.self.inside.carried.items c.args.self.now c.self.view_is)) (inl (omega arith, refl)) in
    let same : c.args.link + length c.self.inside.carried.items - length c.self.inside.carried.items ≡ c.args.link = omega arith in
    let seen = seen_back c.self.inside.through.items c.self.inside.carried.items c.args.self.now c.self.view_is (c.args.link + length c.self.inside.carried.items) (omega arith) (omega arith) ∙ ap (slice_index c.self.inside.carried.items) same in
    let known = c.index_mut.ensures.value ∙ get_or_default c.self.inside.carried.items c.args.link _ 0 (omega arith) in omega arith

pub overflow_sub-index_mut : goal.overflow_sub-index_mut
overflow_sub-index_mut c =
    let half = c.len-half.ensures in let below = c.if-link-half.true in let through = c.len.ensures in let inside = c.if-link-len.true in
    let enough = c.requires.enough in
    let known = c.index_mut-then-link-len.ensures.value ∙ get_or_default c.self.inside.through.items c.args.link _ 0 (omega arith) in
    let seen = seen_through c.self.inside.through.items c.self.inside.carried.items c.args.self.now c.self.view_is c.args.link (omega arith) (omega arith) in omega arith

behind_fits : (c : Else-link-len) → c.index_mut.result.now + c.args.amount ≤ 2 ^ 63
behind_fits c =
    let half = c.len-half.ensures in let below = c.if-link-half.true in let through = c.len.ensures in let behind = c.if-link-len.false in
    let enough = c.requires.enough in let seen = seen_behind c.self.inside.through.items c.self.inside.carried.items c.args.self.now c.self.view_is c.args.link (omega arith) (omega arith) in
    let fit = c.self.invariant.fit c.args.link (omega arith) in
    let known : c.index_mut.result.now ≡ slice_index c.self.inside.carried.items c.args.link = c.index_mut.ensures.value ∙ get_or_default c.self.inside.carried.items c.args.link _ 0 (omega arith) in omega arith

pub invariant_of-self-else-link-len : goal.invariant_of-self-else-link-len
invariant_of-self-else-link-len c = still_carried (length c.self.inside.through.items) c.self.inside.carried.items c.args.link (c.index_mut.result.now + c.args.amount) c.self.invariant (behind_fits c)

pub index_mut-requires-else-link-half : goal.index_mut-requires-else-link-half
index_mut-requires-else-link-half c =
    let half = c.len-half.ensures in let above = c.if-link-half.false in let within = c.requires.within in
    let count = seen_count c.self.inside.through.items c.self.inside.carried.items c.args.self.now c.self.view_is in omega arith

pub overflow_sub-index_mut-else-link-half : goal.overflow_sub-index_mut-else-link-half
overflow_sub-index_mut-else-link-half c =
    let half = c.len-half.ensures in let above = c.if-link-half.false in let within = c.requires.within in let enough = c.requires.enough in
    let count = seen_count c.self.inside.through.items c.self.inside.carried.items c.args.self.now c.self.view_is in
    let same : c.args.link - length c.self.inside.carried.items ≡ c.args.link - c.len-half.result = omega arith in
    let seen = seen_back c.self.inside.through.items c.self.inside.carried.items c.args.self.now c.self.view_is c.args.link (omega arith) (omega arith) ∙ ap (slice_index c.self.inside.carried.items) same in
    let known = c.index_mut-else-link-half.ensures.value ∙ get_or_default c.self.inside.carried.items (c.args.link - c.len-half.result) _ 0 (omega arith) in
    omega arith

pub overflow_add-index_mut-then-forth-len : goal.overflow_add-index_mut-then-forth-len
overflow_add-index_mut-then-forth-len c =
    let half = c.len-half.ensures in let above = c.if-link-half.false in let within = c.requires.within in let through = c.len-else-link-half.ensures in let inside = c.if-forth-len.true in
    let count = seen_count c.self.inside.through.items c.self.inside.carried.items c.args.self.now c.self.view_is in
    let fits = c.requires.fits (length c.self.inside.carried.items) (c.args.link - c.len-half.result) (sym count) (inr (omega arith, omega arith)) in
    let known = c.index_mut-then-forth-len.ensures.value ∙ get_or_default c.self.inside.through.items (c.args.link - c.len-half.result) _ 0 (omega arith) in
    let seen = seen_through c.self.inside.through.items c.self.inside.carried.items c.args.self.now c.self.view_is (c.args.link - c.len-half.result) (omega arith) (omega arith) in omega arith

back_fits : (c : Else-forth-len) → c.index_mut-else-link-half.result.now ≤ 2 ^ 63
back_fits c =
    let half = c.len-half.ensures in let above = c.if-link-half.false in let within = c.requires.within in let through = c.len-else-link-half.ensures in let behind = c.if-forth-len.false in
    let count = seen_count c.self.inside.through.items c.self.inside.carried.items c.args.self.now c.self.view_is in
    let fit = c.self.invariant.fit (c.args.link - c.len-half.result) (omega arith) in
    let known : c.index_mut-else-link-half.result.now ≡ slice_index c.self.inside.carried.items (c.args.link - c.len-half.result) = c.index_mut-else-link-half.ensures.value ∙ get_or_default c.self.inside.carried.items (c.args.link - c.len-half.result) _ 0 (omega arith) in omega arith

pub invariant_of-self-else-forth-len : goal.invariant_of-self-else-forth-len
invariant_of-self-else-forth-len c =
    still_carried (length c.self.inside.through.items) c.self.inside.carried.items (c.args.link - c.len-half.result) (c.index_mut-else-link-half.result.now - c.args.amount) c.self.invariant (let fits = back_fits c in omega arith)

pub returns-then-link-len : goal.returns-then-link-len
returns-then-link-len c =
    let half = c.len-half.ensures in let below = c.if-link-half.true in let through = c.len.ensures in let inside = c.if-link-len.true in
    let known = c.index_mut.ensures.value ∙ get_or_default c.self.inside.carried.items c.args.link _ 0 (omega arith) in
    let most = c.index_mut-then-link-len.ensures.value ∙ get_or_default c.self.inside.through.items c.args.link _ 0 (omega arith) in
    let seen = seen_through c.self.inside.through.items c.self.inside.carried.items c.args.self.now c.self.view_is c.args.link (omega arith) (omega arith) in let enough = c.requires.enough in
    through_forth c.self.inside.through.items c.self.inside.carried.items c.args.self.now c.self.view_is c.args.link c.args.amount c.index_mut-then-link-len.result.now c.index_mut.result.now (omega arith) known (omega arith) most (omega arith)

pub returns-else-link-len : goal.returns-else-link-len
returns-else-link-len c =
    let half = c.len-half.ensures in let below = c.if-link-half.true in let through = c.len.ensures in let behind = c.if-link-len.false in
    let known = c.index_mut.ensures.value ∙ get_or_default c.self.inside.carried.items c.args.link _ 0 (omega arith) in
    behind_forth c.self.inside.through.items c.self.inside.carried.items c.args.self.now c.self.view_is c.args.link c.args.amount 0 c.index_mut.result.now (omega arith) known (omega arith) (behind_fits c)

pub returns-then-forth-len : goal.returns-then-forth-len
returns-then-forth-len c =
    let half = c.len-half.ensures in let above = c.if-link-half.false in let within = c.requires.within in let through = c.len-else-link-half.ensures in let inside = c.if-forth-len.true in
    let count = seen_count c.self.inside.through.items c.self.inside.carried.items c.args.self.now c.self.view_is in
    let same : c.args.link - length c.self.inside.carried.items ≡ c.args.link - c.len-half.result = omega arith in
    let seen = seen_back c.self.inside.through.items c.self.inside.carried.items c.args.self.now c.self.view_is c.args.link (omega arith) (omega arith) ∙ ap (slice_index c.self.inside.carried.items) same in let enough = c.requires.enough in
    let known = c.index_mut-else-link-half.ensures.value ∙ get_or_default c.self.inside.carried.items (c.args.link - c.len-half.result) _ 0 (omega arith) in
    let most = c.index_mut-then-forth-len.ensures.value ∙ get_or_default c.self.inside.through.items (c.args.link - c.len-half.result) _ 0 (omega arith) in
    through_back c.self.inside.through.items c.self.inside.carried.items c.args.self.now c.self.view_is (c.args.link - c.len-half.result) c.args.amount c.index_mut-then-forth-len.result.now c.index_mut-else-link-half.result.now (omega arith) known c.args.link (omega arith) (omega arith) most (omega arith)

pub returns-else-forth-len : goal.returns-else-forth-len
returns-else-forth-len c =
    let half = c.len-half.ensures in let above = c.if-link-half.false in let within = c.requires.within in let through = c.len-else-link-half.ensures in let behind = c.if-forth-len.false in
    let count = seen_count c.self.inside.through.items c.self.inside.carried.items c.args.self.now c.self.view_is in
    let same : c.args.link - length c.self.inside.carried.items ≡ c.args.link - c.len-half.result = omega arith in
    let seen = seen_back c.self.inside.through.items c.self.inside.carried.items c.args.self.now c.self.view_is c.args.link (omega arith) (omega arith) ∙ ap (slice_index c.self.inside.carried.items) same in let enough = c.requires.enough in
    let known = c.index_mut-else-link-half.ensures.value ∙ get_or_default c.self.inside.carried.items (c.args.link - c.len-half.result) _ 0 (omega arith) in
    behind_back c.self.inside.through.items c.self.inside.carried.items c.args.self.now c.self.view_is (c.args.link - c.len-half.result) c.args.amount 0 c.index_mut-else-link-half.result.now (omega arith) known c.args.link (omega arith) (omega arith) (omega arith) (back_fits c)
