use Rattle.std.proofs.Common.{rules, arith, ◌≡◌, ◌∙◌, sym, ap, subst, refl, map, List, Some}
use Rattle.std.proofs.lemmas.List.{length-map}
use Rattle.std.proofs.lemmas.Option.{slice_get_within}
use Rattle.std.specs.Arc.{arc_value}
use Rattle.sm_model.specs.Fragments.{IsValid}
use Rattle.std.specs.List.{slice_get}
use Rattle.sm_model.specs.declared.fragment.Fragment.{Fragment}
use Rattle.sm_model.specs.Entries.{address_of}
use Rattle.sm_log.specs.Adds.{Add, ahead}
use Rattle.sm_shelf.specs.Parts.{stripped}
use Rattle.sm_shelf.proofs.Reading.{seen_of}
use Rattle.sm_shelf.proofs.stock.take.Goals as goal

pub returns : goal.returns
returns c =
    let r = c.requires in
    let adds = c.args.catalog.now.adds in
    let a = c.args.address.now in
    let block = arc_value c.block.result.now in
    let same : arc_value c.in_ok-try_clone.field-0 ≡ block = search rules in
    let both : Some block ≡ Some r.there.0 = sym c.block.ensures.at ∙ r.there.1 in
    let is : block ≡ r.there.0 = cc in
    let few = r.listing.few in
    let long = length-map adds stripped in
    let inside = slice_get_within c.args.window.now c.args.i r.there.0 r.there.1 in
    record {
      held = record {
        index = c.args.i;
        at = c.block.ensures.at ∙ ap (λ (f : Fragment). Some f) (sym same);
        address = ap address_of (same ∙ is) ∙ r.there.2;
        place_is = omega (arith, c.len.ensures, c.len-2.ensures, r.within, few, long);
      };
      first = c.ahead.ensures ∙ ap (λ (l : List Add). slice_get (ahead c.args.catalog.now.channel l a.stream a.time) 0) r.listing.places;
      second = c.ahead-2.ensures ∙ ap (λ (l : List Add). slice_get (ahead c.args.catalog.now.channel l a.stream a.time) 1) r.listing.places;
      valid = subst IsValid (sym same) c.block.ensures.valid;
      small = omega (arith, c.len.ensures, c.len-2.ensures, r.within, few, inside);
      channel = seen_of c.in_ok-channel_for.field-0 c.args.catalog.now.channel (record { channel = Some c.args.catalog.now.channel; adds = map stripped adds; window = c.args.window.now }) c.in_ok-channel_for.ensures.same refl;
      asked = c.in_ok-channel_for.ensures.given;
    }
