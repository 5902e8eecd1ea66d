use Rattle.mari_day.proofs.text.day_of.Goals as goal

pub returns-in-Done-clause-day : goal.returns-in-Done-clause-day
returns-in-Done-clause-day g c =
    let w = c.in-Done.ensures.day in
    let p = w.printed in
    record { publication = p.publication; is_day = p.is_day; in_range = p.in_range; text = cc (w.taken, p.text); published = p.published; unpublished = p.unpublished }
