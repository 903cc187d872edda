pub returns : Rattle.pac_picture.proofs.screen.Screen.boxes_on.Goals.returns
returns c = rw (← c.self.view_is) c.boxes_at.ensures
