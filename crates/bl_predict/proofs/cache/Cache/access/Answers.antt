use Rattle.std.proofs.Common.{◌≡◌, ◌<◌, ℕ, ◌%◌, ◌/◌, [], length, map, set, get_or, ap, sym, subst, ◌∙◌, arith}
use Rattle.std.proofs.lemmas.List.{get_or-map, length-set, map-set}
use Rattle.lru.specs.LruCache.{LruCache}
use Rattle.bl_predict.specs.Lines.{IsSet, accessed, lines_of}
use Rattle.bl_predict.proofs.CacheLemmas.{all_set, on_ok, still, lines_back}
use Rattle.bl_predict.proofs.cache.Cache.access.Goals as goal

pub invariant_of-self : goal.invariant_of-self
invariant_of-self g c =
    let sets = c.self.inside.sets.items in
    let at = c.args.address / 64 % g.row.S in
    let old = c.index_mut.result.now in
    let within : at < length sets = omega (arith, c.self.invariant.0, c.self.invariant.1) in
    let is : IsSet g.row.A old = subst (IsSet g.row.A) (sym c.index_mut.ensures.value) (c.self.invariant.2 at old within) in
    let most : old.cap ≡ g.row.A = ap (λ (s : LruCache ℕ _). s.cap) is in
    let same : IsSet g.row.A c.touch.new.set =
    subst (λ m. IsSet m c.touch.new.set) most (still c.touch.result old.cap _ old c.touch.new.set c.touch.ensures.lines c.touch.ensures.err (subst (λ m. IsSet m old) (sym most) is)) in
    (c.self.invariant.0, length-set sets at c.touch.new.set ∙ c.self.invariant.1, all_set (IsSet g.row.A) sets at c.touch.new.set c.self.invariant.2 same)

pub returns-clause-lines : goal.returns-clause-lines
returns-clause-lines g c =
    let sets = c.self.inside.sets.items in
    let line = c.args.address / 64 in
    let at = line % g.row.S in
    let old = c.index_mut.result.now in
    let within : at < length sets = omega (arith, c.self.invariant.0, c.self.invariant.1) in
    let is : IsSet g.row.A old = subst (IsSet g.row.A) (sym c.index_mut.ensures.value) (c.self.invariant.2 at old within) in
    let most : old.cap ≡ g.row.A = ap (λ (s : LruCache ℕ _). s.cap) is in
    let lines : accessed old.cap line (lines_of old) ≡ accessed g.row.A line (get_or (map lines_of sets) at []) =
    ap (λ m. accessed m line (lines_of old)) most ∙ ap (accessed g.row.A line) (ap lines_of c.index_mut.ensures.value ∙ sym (get_or-map lines_of sets at old [] within)) in
    on_ok c.touch.result (λ h. map-set lines_of sets at c.touch.new.set ∙ ap (set (map lines_of sets) at) (ap lines_of h ∙ lines_back (accessed old.cap line (lines_of old)) ∙ lines)
    ∙ ap (λ ls. set ls at (accessed g.row.A line (get_or ls at []))) c.self.view_is) c.touch.ensures.lines
