use Rattle.std.proofs.Common.{◌≡◌, ◌∙◌, sym, ap, ◌+◌, ◌&&◌, subst, true, drop, List, ◌∷◌}
use Rattle.std.specs.Prelude.{fold}
use Rattle.std.specs.List.{list_all}
use Rattle.std.proofs.lemmas.List.{drop_more}
use Rattle.bl_wasm.specs.declared.linked.Global.{Global}
use Rattle.bl_wasm.specs.declared.linked.Memory.{Memory}
use Rattle.bl_wasm.specs.declared.module.DataSegment.{DataSegment}
use Rattle.bl_link.specs.Links.{data_fits, put_data}
use Rattle.bl_link.specs.IndexSpaces.{Spaces}
use Rattle.bl_link.proofs.ImportMatchLemmas.{and_left, and_right}
use Rattle.bl_link.proofs.SegmentLemmas.{fits_later}
use Rattle.bl_link.proofs.segments.with_data.Goals as goal

-- one segment more is written
fits_more : (globals : List Global) (spaces : Spaces) (memories next : List Memory) (left rest : List DataSegment) (segment : DataSegment) → left ≡ segment ∷ rest → next ≡ put_data globals spaces memories segment
    → list_all (data_fits globals spaces memories) left ≡ true → list_all (data_fits globals spaces next) rest ≡ true
fits_more globals spaces memories next left rest segment split made fits =
    let all : (data_fits globals spaces memories segment && list_all (data_fits globals spaces memories) rest) ≡ true = subst (λ (l : List DataSegment). list_all (data_fits globals spaces memories) l ≡ true) split fits in
    subst (λ (m : List Memory). list_all (data_fits globals spaces m) rest ≡ true) (sym made)
    (fits_later globals spaces segment rest memories (and_left (data_fits globals spaces memories segment) (list_all (data_fits globals spaces memories) rest) all) (and_right (data_fits globals spaces memories segment) (list_all (data_fits globals spaces memories) rest) all))

whole_more : (globals : List Global) (spaces : Spaces) (memories next whole : List Memory) (left rest : List DataSegment) (segment : DataSegment) → left ≡ segment ∷ rest → next ≡ put_data globals spaces memories segment
    → fold (put_data globals spaces) memories left ≡ whole → fold (put_data globals spaces) next rest ≡ whole
whole_more globals spaces memories next whole left rest segment split made so_far =
    ap (λ (m : List Memory). fold (put_data globals spaces) m rest) made ∙ ap (λ (l : List DataSegment). fold (put_data globals spaces) memories l) (sym split) ∙ so_far

pub loop-segment-preserved : goal.loop-segment-preserved
loop-segment-preserved c =
    let split : drop c.loop-segment.segment-index c.args.segments.now ≡ c.segment-item.result ∷ drop (c.loop-segment.segment-index + 1) c.args.segments.now =
    drop_more c.args.segments.now c.loop-segment.segment-index c.segment-item.result c.loop-segment-test.true ∙ ap (λ (s : DataSegment). s ∷ drop (c.loop-segment.segment-index + 1) c.args.segments.now) (sym c.segment-item.is) in
    record {
      fits = fits_more c.args.globals.now c.args.spaces.now c.loop-segment.cells.items c.put_data.new.memories.items (drop c.loop-segment.segment-index c.args.segments.now) (drop (c.loop-segment.segment-index + 1) c.args.segments.now) c.segment-item.result split c.put_data.ensures c.loop-segment.invariant.fits;
      whole = whole_more c.args.globals.now c.args.spaces.now c.loop-segment.cells.items c.put_data.new.memories.items _ (drop c.loop-segment.segment-index c.args.segments.now) (drop (c.loop-segment.segment-index + 1) c.args.segments.now) c.segment-item.result split c.put_data.ensures c.loop-segment.invariant.whole;
    }
