use Rattle.store_rows.proofs.stores.stop.Goals as goal

pub returns : goal.returns
returns c =
    let h = c.requires in
    (h.0, h.1, c.fewer_images_stand.ensures c.args.archive.now h.0 h.1 c.args.site.now c.stop_after.new.self h.2 (λ x left. (c.stop_after.ensures.keeps.crash x).0 left))
