use Rattle.store_rows.proofs.stores.fetch_at.Goals as goal

pub returns : goal.returns
returns c = let h = c.requires in (h.0, h.1, c.fetch.ensures.stands h.0 h.1 h.2)
