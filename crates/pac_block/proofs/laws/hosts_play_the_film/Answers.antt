use Rattle.pac_block.proofs.Films.{hosts-play-the-film}

pub returns : Rattle.pac_block.proofs.laws.hosts_play_the_film.Goals.returns
returns c = hosts-play-the-film
