mod ToldText
